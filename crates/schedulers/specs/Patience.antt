-- The patience of a place that waits falls with each pick of another, and has a bound.
use Rattle.std.specs.Prelude.{◌≡◌, ℕ, zero, suc, ◌+◌, ◌-◌, ◌*◌, ◌%◌, ◌<◌, ◌≤◌, true, false, ◌⊎◌, Some, ◌≢◌, refl}
use Rattle.std.proofs.Common.{◌∙◌, ap, inl, inr, ⊎_elim, mod-eq_of_lt, arith}
use Rattle.std.proofs.Math.Nat.{add-mod_right, mod_self}
use Rattle.std.proofs.lemmas.Bool.{cases_lt, cases_order}
use Rattle.std.proofs.lemmas.Bool.Decides.{nat_tests}
use Rattle.schedulers.specs.declared.state.RoundRobinState.{RoundRobinState}
use Rattle.schedulers.specs.Sound.{Sound}
use Rattle.schedulers.specs.Rule.{weight_of, waits, goes_on, next_waiting, spent, taken_by, chosen, turned, patience_at, patience}
use Rattle.schedulers.specs.Search.{distance, distance_is, distance_range, first_nearest}
use Rattle.schedulers.specs.Steps.{by_pick, waits_weight, waits_below}

-- (i - p) mod n by the distance: 0 at p itself, else the distance
remainder : (n p i : ℕ) → p < n → i < n → ((i ≡ p) × ((i + n - p) % n ≡ 0)) ⊎ ((i ≢ p) × ((i + n - p) % n ≡ distance n p i))
remainder n p i h l =
    ⊎_elim
    (λ (e : i ≡ p). inl (e, (let q : i + n - p ≡ n = omega arith in ap (λ x. x % n) q ∙ mod_self n)))
    (⊎_elim
    (λ (b : i < p).
    let a = distance_is n p i in
    let q : i + n - p ≡ distance n p i = omega arith in
    let s : distance n p i < n = omega arith in
    inr ((λ e. omega arith), (ap (λ x. x % n) q ∙ mod-eq_of_lt s)))
    (λ (b : p < i).
    let a = distance_is n p i in
    let q : i + n - p ≡ distance n p i + n = omega arith in
    let s : distance n p i < n = omega arith in
    inr ((λ e. omega arith), (ap (λ x. x % n) q ∙ add-mod_right (distance n p i) n ∙ mod-eq_of_lt s))))
    (cases_order i p)

patience_later : (n d c : ℕ) → 0 < d → patience_at n d c ≡ c + (d - 1) * 8
patience_later n zero c h = absurd (omega arith)
patience_later n (suc d) c h = omega arith

patience_now : (n c : ℕ) → ((0 < c) × (patience_at n 0 c ≡ 0)) ⊎ ((c ≡ 0) × (patience_at n 0 c ≡ (n - 1) * 8))
patience_now n zero = inr (refl, refl)
patience_now n (suc c) = inl (omega arith, refl)

-- the patience w of place i by its distance from the turn p, with credit c
abbrev ByDistance : (n p i c w : ℕ) → Type 0
ByDistance n p i c w =
    ((i ≡ p) × (0 < c) × (w ≡ 0)) ⊎ (((i ≡ p) × (c ≡ 0) × (w ≡ c + (distance n p i - 1) * 8)) ⊎ ((i ≢ p) × (w ≡ c + (distance n p i - 1) * 8)))

by_distance : (n p i c : ℕ) → p < n → i < n → ByDistance n p i c (patience_at n ((i + n - p) % n) c)
by_distance n p i c h l =
    ⊎_elim
    (λ (e : (i ≡ p) × ((i + n - p) % n ≡ 0)).
    let at : patience_at n ((i + n - p) % n) c ≡ patience_at n 0 c = ap (λ x. patience_at n x c) e.1 in
    ⊎_elim
    (λ (z : (0 < c) × (patience_at n 0 c ≡ 0)). inl (e.0, z.0, at ∙ z.1))
    (λ (z : (c ≡ 0) × (patience_at n 0 c ≡ (n - 1) * 8)).
    let a = distance_is n p i in
    let q : (n - 1) * 8 ≡ c + (distance n p i - 1) * 8 = omega arith in
    inr (inl (e.0, z.0, at ∙ z.1 ∙ q)))
    (patience_now n c))
    (λ (e : (i ≢ p) × ((i + n - p) % n ≡ distance n p i)).
    inr (inr (e.0, ap (λ x. patience_at n x c) e.1 ∙ patience_later n (distance n p i) c (distance_range n p i h l).0)))
    (remainder n p i h l)

-- from p to j by way of i, which is nearer
distance_through : (n p i j : ℕ) → p < n → i < n → j < n → distance n p i < distance n p j → distance n i j + distance n p i ≡ distance n p j
distance_through n p i j h l m w = let a = distance_is n p i in let b = distance_is n p j in let d = distance_is n i j in omega arith

module _ {N : ℕ} (s : RoundRobinState N) (sound : Sound N s) (j : ℕ) (waiting : waits s j ≡ true) where
  below : j < N
  below = waits_below s sound j waiting

  turn_below : s.turn < N
  turn_below = let h = below in omega (arith, sound.1)

  falls_again : (i : ℕ) → goes_on s ≡ true → Some s.turn ≡ Some i → (j ≢ i) → patience (spent s) j < patience s j
  falls_again i h e ne =
      let q : s.turn ≡ i = cc in
      let l : 0 < s.credit = grind (arith, nat_tests) in
      let old = by_distance N s.turn j s.credit turn_below below in
      let new = by_distance N s.turn j (s.credit - 1) turn_below below in
      omega arith

  falls_found : (i : ℕ) → goes_on s ≡ false → next_waiting s ≡ Some i → (j ≢ i) → patience (taken_by s i) j < patience s j
  falls_found i h e ne =
      let near = first_nearest s.weights N N s.turn i turn_below e in
      let nearer : distance N s.turn i < distance N s.turn j = near.1 j below (waits_weight s j waiting) ne in
      let through = distance_through N s.turn i j turn_below near.2 below nearer in
      let range = (distance_range N s.turn i turn_below near.2).0 in
      let most : weight_of s i ≤ 8 = sound.3 i in
      let spent-or-other : (s.credit ≤ 0) ⊎ (j ≢ s.turn) = grind (arith, nat_tests, waiting, cases_lt 0 s.credit) in
      let old = by_distance N s.turn j s.credit turn_below below in
      let new = by_distance N i j (weight_of s i - 1) near.2 below in
      omega arith

  pub patience_falls : (i : ℕ) → chosen s ≡ Some i → (j ≢ i) → patience (turned s) j < patience s j
  patience_falls i e ne =
      by_pick s (λ o t. o ≡ Some i → patience t j < patience s j)
      (λ h f. falls_again i h f ne)
      (λ k h f q. let p : k ≡ i = cc in falls_found k h f (λ x. ne (x ∙ p)))
      (λ h f q. cc)
      e

  pub patience_bounded : patience s j ≤ (N - 1) * 8
  patience_bounded =
      let h = below in
      let w = by_distance N s.turn j s.credit turn_below below in
      let a = distance_is N s.turn j in
      omega (arith, sound.1, sound.2)
