-- The estimate of a path's round trip, and how a sample moves it. Assumes nothing.
--   smoothed p, variation p    the smoothed round trip (S) and its mean deviation (V)
--   is_sample r                a sample is 1 to 10,000,000 microseconds
--   first_estimate r           the first sample: S = r, V = r / 2
--   next_estimate p r          a later sample: V = (3V + |S - r|) / 4 with the old S, then S = (7S + r) / 8
--   path_after p sample        the estimate after a sample, if there is one in range
use Rattle.std.specs.Prelude.{◌≡◌, ℕ, ◌+◌, ◌-◌, ◌*◌, ◌/◌, ◌≤◌, Bool, true, false, ◌&&◌, Some, None, Option, nat_le, refl}
use Rattle.std.proofs.Common.{arith}
use Rattle.std.proofs.lemmas.Bool.{and_parts, leb-true}
use Rattle.meaning.specs.declared.path.PathEstimate.{PathEstimate}

abbrev pub smoothed : PathEstimate → ℕ
smoothed p = p.srtt

abbrev pub variation : PathEstimate → ℕ
variation p = p.rttvar

abbrev pub is_sample : ℕ → Bool
is_sample r = nat_le 1 r && nat_le r 10000000

-- a sample in range
abbrev pub Sample : ℕ → Type 0
Sample r = (1 ≤ r) × (r ≤ 10000000)

pub sample_range : (r : ℕ) → is_sample r ≡ true → Sample r
sample_range r e = let h = and_parts (nat_le 1 r) (nat_le r 10000000) e in (leb-true 1 r h.0, leb-true r 10000000 h.1)

-- |a - b|
abbrev pub distance : ℕ → ℕ → ℕ
distance a b = (a - b) + (b - a)

abbrev pub first_estimate : (r : ℕ) → Sample r → PathEstimate
first_estimate r h = record { srtt = r; rttvar = r / 2; ranged = (h.0, h.1, omega arith) }

abbrev pub next_estimate : PathEstimate → (r : ℕ) → Sample r → PathEstimate
next_estimate p r h = record {
  srtt = (7 * smoothed p + r) / 8;
  rttvar = (3 * variation p + distance (smoothed p) r) / 4;
  ranged = (omega (arith, p.ranged), omega (arith, p.ranged), omega (arith, p.ranged));
}

-- the estimate after the sample r, of which b says whether it is in range
abbrev pub path_sampled : Option PathEstimate → (r : ℕ) (b : Bool) → is_sample r ≡ b → Option PathEstimate
path_sampled None r true e = Some (first_estimate r (sample_range r e))
path_sampled (Some p) r true e = Some (next_estimate p r (sample_range r e))
path_sampled None r false e = None
path_sampled (Some p) r false e = Some p

abbrev pub path_after : Option PathEstimate → Option ℕ → Option PathEstimate
path_after p None = p
path_after p (Some r) = path_sampled p r (is_sample r) refl
