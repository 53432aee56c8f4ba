-- The laws of a scheduler make its picks fair.
--   waits_after      whether a slot waits after some events, by the scheduler and by the history
--   others_patience  a run in which a slot waits and is not picked has no more picks of others than the slot's patience
--   fair             fairness, of the answers of a run
use Rattle.std.proofs.Common.{◌≡◌, ℕ, zero, suc, ◌+◌, ◌<◌, ◌≤◌, true, false, not, ◌&&◌, ◌||◌, eqb, ◌⊎◌, List, [], ◌∷◌, length, take, drop, Some, None, Option, sym, refl, ap, ◌∙◌, subst, ⊎_elim, add-zero, arith, length-take}
use Rattle.std.proofs.Math.Bool.{or-false}
use Rattle.std.proofs.lemmas.Bool.{cases_eq, cases_lt, eq-eqb, both_ways, cond-true}
use Rattle.std.proofs.lemmas.Bool.Decides.{nat_tests}
use Rattle.meaning.specs.Scheduling.{Scheduling, SchedulingLaws}
use Rattle.fairness.specs.declared.event.Event.{Event}
use Rattle.fairness.specs.declared.event.Event.TheVariants.{Raise, Lower, Pick}
use Rattle.fairness.specs.Events.{state_after, answers}
use Rattle.fairness.specs.Fair.{in_range, waiting, stretch, times_picked, answered, Fair}
use Rattle.fairness.proofs.Stretches.{answers_stretch, state_stretch}

module _ {S : Type 0} (k : Scheduling S) (laws : SchedulingLaws 32 k) (i : ℕ) where
  -- a raise that is not in range changes nothing
  out_of_range : (s : S) (slot weight : ℕ) → (32 ≤ slot) ⊎ ((weight ≡ 0) ⊎ (8 < weight)) → k.raised s slot weight ≡ s
  out_of_range s slot weight why = grind (arith, laws.raise_outside s slot weight, laws.raise_weightless s slot, laws.raise_heavy s slot weight)

  range_cases : (slot weight : ℕ) → ((slot < 32) × (1 ≤ weight) × (weight ≤ 8) × (in_range slot weight ≡ true)) ⊎ (((32 ≤ slot) ⊎ ((weight ≡ 0) ⊎ (8 < weight))) × (in_range slot weight ≡ false))
  range_cases slot weight = grind (arith, nat_tests, cases_lt slot 32, cases_lt 0 weight, cases_lt 8 weight)

  waits_raised : (s : S) (slot weight : ℕ) → k.waits (k.raised s slot weight) i ≡ (k.waits s i || (eqb i slot && in_range slot weight))
  waits_raised s slot weight =
      let adds = laws.raise_adds s slot weight in
      let others = laws.raise_others s slot weight i in
      let still = λ (x : (32 ≤ slot) ⊎ ((weight ≡ 0) ⊎ (8 < weight))). ap (λ (r : S). k.waits r i) (out_of_range s slot weight x) in
      grind (arith, nat_tests, or-false, adds, others, still, cases_eq i slot, range_cases slot weight)

  waits_lowered : (s : S) (slot : ℕ) → k.waits (k.lowered s slot) i ≡ (k.waits s i && not (eqb i slot))
  waits_lowered s slot =
      let removes = laws.lower_removes s slot in
      let others = laws.lower_others s slot i in
      grind (arith, nat_tests, removes, others, cases_eq i slot)

  waits_after : (s : S) (events : List Event) → k.waits (state_after k s events) i ≡ waiting i (k.waits s i) events
  waits_after s [] = refl
  waits_after s (Raise slot weight ∷ events) = waits_after (k.raised s slot weight) events ∙ ap (λ b. waiting i b events) (waits_raised s slot weight)
  waits_after s (Lower slot ∷ events) = waits_after (k.lowered s slot) events ∙ ap (λ b. waiting i b events) (waits_lowered s slot)
  waits_after s (Pick ∷ events) = waits_after (k.turned s) events ∙ ap (λ b. waiting i b events) (laws.pick_keeps s i)

  bound_after : (s : S) (events : List Event) → k.bound (state_after k s events) ≡ k.bound s
  bound_after s [] = refl
  bound_after s (Raise slot weight ∷ events) = bound_after (k.raised s slot weight) events ∙ laws.raise_bound s slot weight
  bound_after s (Lower slot ∷ events) = bound_after (k.lowered s slot) events ∙ laws.lower_bound s slot
  bound_after s (Pick ∷ events) = bound_after (k.turned s) events ∙ laws.pick_bound s

  -- a slot that waits, and waits on, has no more patience after raises and lowers of any slot
  raised_patience : (s : S) (slot weight : ℕ) → k.waits s i ≡ true → k.patience (k.raised s slot weight) i ≤ k.patience s i
  raised_patience s slot weight b = grind (arith, laws.raise_waiting s slot weight, laws.raise_patience s slot weight i, cases_eq i slot)

  lowered_patience : (s : S) (slot : ℕ) → k.waits s i ≡ true → k.waits (k.lowered s slot) i ≡ true → k.patience (k.lowered s slot) i ≤ k.patience s i
  lowered_patience s slot b on = grind (arith, laws.lower_removes s slot, laws.lower_patience s slot i b, cases_eq i slot)

  -- the slot waits at each event of the run, as it comes
  abbrev WaitsThrough : S → List Event → Type 0
  WaitsThrough s events = (m : ℕ) → m < length events → k.waits (state_after k s (take m events)) i ≡ true

  others_patience : (s : S) (events : List Event) → WaitsThrough s events → times_picked i (answers k s events) ≡ 0 → answered (answers k s events) ≤ k.patience s i
  others_patience s [] waits none = omega arith
  others_patience s (Raise slot weight ∷ events) waits none =
      let later = others_patience (k.raised s slot weight) events (λ m h. waits (suc m) (omega arith)) none in
      omega (arith, raised_patience s slot weight (waits 0 (omega arith)))
  others_patience s (Lower slot ∷ []) waits none = omega arith
  others_patience s (Lower slot ∷ (event ∷ events)) waits none =
      let later = others_patience (k.lowered s slot) (event ∷ events) (λ m h. waits (suc m) (omega arith)) none in
      omega (arith, lowered_patience s slot (waits 0 (omega arith)) (waits 1 (omega arith)))
  others_patience s (Pick ∷ events) waits none =
      picked (k.chosen s) refl (others_patience (k.turned s) events (λ m h. waits (suc m) (omega arith))) none
    where
      picked : (o : Option ℕ) → k.chosen s ≡ o
          → (times_picked i (answers k (k.turned s) events) ≡ 0 → answered (answers k (k.turned s) events) ≤ k.patience (k.turned s) i)
          → times_picked i (o ∷ answers k (k.turned s) events) ≡ 0 → answered (o ∷ answers k (k.turned s) events) ≤ k.patience s i
      picked (Some slot) e later none =
          ⊎_elim
          (λ (q : i ≡ slot). absurd (omega (arith, cond-true {A = ℕ} (eqb i slot) 1 0 (eq-eqb i slot q))))
          (λ (ne : i ≡ slot → ⊥). omega (arith, later (omega arith), laws.pick_patience s slot i e (waits 0 (omega arith)) ne))
          (cases_eq i slot)
      picked None e later none = absurd (both_ways (k.waits s i) (laws.pick_absent s e i) (waits 0 (omega arith)))

module _ {S : Type 0} (k : Scheduling S) (laws : SchedulingLaws 32 k) (s : S) (events : List Event) where
  by_history : (slot start len : ℕ) → ((m : ℕ) → m < len → waiting slot (k.waits s slot) (take (start + m) events) ≡ true)
      → WaitsThrough k laws slot (state_after k s (take start events)) (stretch start len events)
  by_history slot start len waits m h =
      let within : m < len = omega (arith, length-take len (drop start events)) in
      ap (λ (x : S). k.waits x slot) (state_stretch k start len m s events (omega arith)) ∙ waits_after k laws slot s (take (start + m) events) ∙ waits m within

  pub fair : Fair k s events (answers k s events)
  fair slot start zero waits none = omega arith
  fair slot start (suc len) waits none =
      let s' = state_after k s (take start events) in
      let own = answers_stretch k start (suc len) s events in
      let first : waiting slot (k.waits s slot) (take start events) ≡ true = subst (λ n. waiting slot (k.waits s slot) (take n events) ≡ true) (add-zero start) (waits 0 (omega arith)) in
      let others = others_patience k laws slot s' (stretch start (suc len) events) (by_history slot start (suc len) waits) (subst (λ xs. times_picked slot xs ≡ 0) own none) in
      let most : k.patience s' slot ≤ k.bound s' = laws.bounded s' slot (waits_after k laws slot s (take start events) ∙ first) in
      subst (λ xs. answered xs ≤ k.bound s) (sym own) (omega (arith, bound_after k laws slot s (take start events)))
