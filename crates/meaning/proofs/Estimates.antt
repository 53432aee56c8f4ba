-- An estimate is told by its two numbers. Assumes nothing.
use Rattle.std.proofs.Common.{◌≡◌, ℕ, ◌+◌, ◌*◌, ◌/◌, ◌≤◌, Bool, true, false, Some, None, Option, sym, refl, ap}
use mathlib.Core.HLevel.{is_prop→PathP}
use denote.Struct.Props.{props}
use Rattle.std.proofs.lemmas.Bool.{true≢false}
use Rattle.meaning.specs.declared.path.PathEstimate.{PathEstimate}
use Rattle.meaning.specs.Paths.{smoothed, variation, is_sample, sample_range, distance, first_estimate, next_estimate, path_sampled, path_after}

abbrev Ranged : ℕ → ℕ → Type 0
Ranged s v = (1 ≤ s) × (s ≤ 10000000) × (v ≤ 10000000)

ranged_prop : (s v : ℕ) → IsProp (Ranged s v)
ranged_prop s v = hlevel props

pub same_estimate : (p q : PathEstimate) → p.srtt ≡ q.srtt → p.rttvar ≡ q.rttvar → p ≡ q
same_estimate p q s v = λ i. record {
  srtt = s i;
  rttvar = v i;
  ranged = is_prop→PathP (λ j. Ranged (s j) (v j)) (λ j. ranged_prop (s j) (v j)) p.ranged q.ranged i;
}

module _ (q : PathEstimate) (r : ℕ) where
  first_sampled : (b : Bool) (e : is_sample r ≡ b) → b ≡ true → q.srtt ≡ r → q.rttvar ≡ r / 2 → Some q ≡ path_sampled None r b e
  first_sampled true e t s v = ap (λ (x : PathEstimate). Some x) (same_estimate q (first_estimate r (sample_range r e)) s v)
  first_sampled false e t s v = absurd (true≢false (sym t))

  next_sampled : (p : PathEstimate) (b : Bool) (e : is_sample r ≡ b) → b ≡ true → q.srtt ≡ (7 * smoothed p + r) / 8 → q.rttvar ≡ (3 * variation p + distance (smoothed p) r) / 4 → Some q ≡ path_sampled (Some p) r b e
  next_sampled p true e t s v = ap (λ (x : PathEstimate). Some x) (same_estimate q (next_estimate p r (sample_range r e)) s v)
  next_sampled p false e t s v = absurd (true≢false (sym t))

  module _ (path : Option PathEstimate) (sample : Option ℕ) (given : sample ≡ Some r) (t : is_sample r ≡ true) where
    -- the estimate after a first sample, and after a later one
    pub first_is : path ≡ None → q.srtt ≡ r → q.rttvar ≡ r / 2 → Some q ≡ path_after path sample
    first_is none s v = rw (none, given) (first_sampled (is_sample r) refl t s v)

    pub next_is : (p : PathEstimate) → path ≡ Some p → q.srtt ≡ (7 * smoothed p + r) / 8 → q.rttvar ≡ (3 * variation p + distance (smoothed p) r) / 4 → Some q ≡ path_after path sample
    next_is p some s v = rw (some, given) (next_sampled p (is_sample r) refl t s v)
