-- A search upward and round n places finds the first place that waits.
--   distance       how many places i is after p: 1 to n
--   first_nearest  what a search finds waits, and every other place that waits is farther
--   first_none     a search of k places that finds nothing leaves only farther places
use Rattle.std.specs.Prelude.{◌≡◌, ℕ, zero, suc, ◌+◌, ◌-◌, ◌<◌, ◌≤◌, cond, ◌⊎◌, List, Some, None, ◌≢◌, nat_lt, slice_index, slice_index_or}
use Rattle.std.proofs.Common.{ap, subst, arith}
use Rattle.std.proofs.lemmas.Bool.{cond_both, ltb-true, ltb-false}
use Rattle.std.proofs.lemmas.Bool.Decides.{nat_tests}
use Rattle.schedulers.specs.Rule.{place_after, first_waiting}
use Rattle.schedulers.specs.Kept.{place_after_below}

pub distance : ℕ → ℕ → ℕ → ℕ
distance n p i = cond (nat_lt p i) (i - p) (i + n - p)

pub distance_is : (n p i : ℕ) → ((p < i) × (distance n p i ≡ i - p)) ⊎ ((i ≤ p) × (distance n p i ≡ i + n - p))
unfolding distance
distance_is n p i = grind (arith, nat_tests)

distance_next : (n p : ℕ) → p < n → distance n p (place_after n p) ≡ 1
unfolding distance
distance_next n p h = grind (arith, nat_tests)

distance_step : (n p i : ℕ) → p < n → i < n → (i ≢ place_after n p) → distance n p i ≡ distance n (place_after n p) i + 1
unfolding distance
distance_step n p i h l ne = grind (arith, nat_tests)

pub distance_range : (n p i : ℕ) → p < n → i < n → (0 < distance n p i) × (distance n p i ≤ n)
unfolding distance
distance_range n p i h l = grind (arith, nat_tests)

pub first_nearest : (ws : List ℕ) (n k p j : ℕ) → p < n → first_waiting ws n k p ≡ Some j
    → (0 < slice_index ws j) × ((i : ℕ) → i < n → 0 < slice_index ws i → (i ≢ j) → distance n p j < distance n p i) × (j < n)
first_nearest ws n zero p j h e = cc
first_nearest ws n (suc k) p j h e =
    cond_both (nat_lt 0 (slice_index ws (place_after n p))) (Some (place_after n p)) (first_waiting ws n k (place_after n p))
    (λ o. o ≡ Some j → (0 < slice_index ws j) × ((i : ℕ) → i < n → 0 < slice_index ws i → (i ≢ j) → distance n p j < distance n p i) × (j < n))
    (λ b f.
    let q : place_after n p ≡ j = cc in
    subst (λ x. (0 < slice_index ws x) × ((i : ℕ) → i < n → 0 < slice_index ws i → (i ≢ x) → distance n p x < distance n p i) × (x < n)) q (
      ltb-true 0 _ b,
      (λ i l w ne. omega (arith, distance_next n p h, distance_step n p i h l ne, (distance_range n (place_after n p) i (place_after_below n p h) l).0)),
      place_after_below n p h,
    ))
    (λ b f.
    let ih = first_nearest ws n k (place_after n p) j (place_after_below n p h) f in
    let idle : slice_index_or ws (place_after n p) 0 ≤ 0 = ltb-false 0 _ b in
    let other : (i : ℕ) → 0 < slice_index ws i → i ≡ place_after n p → ⊥ = λ i w q. let z : slice_index_or ws i 0 ≡ slice_index_or ws (place_after n p) 0 = ap (λ x. slice_index ws x) q in omega arith in (
      ih.0,
      (λ i l w ne. omega (arith, ih.1 i l w ne, distance_step n p i h l (other i w), distance_step n p j h ih.2 (other j ih.0))),
      ih.2,
    ))
    e

pub first_none : (ws : List ℕ) (n k p i : ℕ) → p < n → first_waiting ws n k p ≡ None → i < n → 0 < slice_index ws i → k < distance n p i
first_none ws n zero p i h e l w = (distance_range n p i h l).0
first_none ws n (suc k) p i h e l w =
    let ih = λ (f : first_waiting ws n k (place_after n p) ≡ None). first_none ws n k (place_after n p) i (place_after_below n p h) f l w in
    grind (arith, nat_tests, ih, distance_step n p i h l)
