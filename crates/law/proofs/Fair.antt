-- Who waits is served: the patience of a slot that waits bounds the grants to others.
--   Picks           a grant goes to the slot that the scheduler of its macroflow picks
--   bound_same      the bound of a macroflow's scheduler never changes
--   patient         with one call more, patience and grants together do not grow
use Rattle.std.proofs.Common.{◌≡◌, ℕ, ◌+◌, ◌≤◌, true, cond, eqb, [], ◌∷◌, get_or, Some, sym, refl, ap, ◌∙◌, arith}
use Rattle.std.proofs.lemmas.Bool.{eq-eqb, eqb-true, cond_both}
use Rattle.meaning.specs.Scheduling.{SchedulingLaws}
use Rattle.law.specs.Effects.{Effect}
use Rattle.law.specs.Effects.Booking.{Granted}
use Rattle.law.specs.Effects.SlotEvent.{Booked}
use Rattle.law.specs.Effects.Effect.{AtSlot}
use Rattle.law.specs.Slots.{weight}
use Rattle.law.specs.History.{History, of_slot, waits_in, grants_to, grants_in, picked}
use Rattle.law.proofs.Ways.{by_test}
use Rattle.law.proofs.Changes.{patience_changed, bound_changed}
use Rattle.law.proofs.Kept.{Host, scheduler_of, picked_keeps}

module _ {C S : Type 0} (H : Host C S) where
  abbrev pub Picks : History → Effect → Type 0
  Picks h (AtSlot t k (Booked (Granted f g b))) = H.scheduling.chosen (scheduler_of H h f) ≡ Some k
  Picks h _ = Unit {0}

  module _ (laws : SchedulingLaws 32 H.scheduling) where
    picked_bound : (f : ℕ) (s : S) (e : Effect) → H.scheduling.bound (picked H.scheduling f s e) ≡ H.scheduling.bound s
    picked_bound f s (AtSlot t k (Booked (Granted a g b))) = cond_both (eqb a f) _ _ (λ x. H.scheduling.bound x ≡ H.scheduling.bound s) (λ _. laws.pick_bound s) (λ _. refl)
    picked_bound f s _ = refl

    pub bound_same : (h : History) (f : ℕ) → H.scheduling.bound (scheduler_of H h f) ≡ H.scheduling.bound (get_or H.schedulers f H.scheduling.spare)
    bound_same [] f = refl
    bound_same (e ∷ h) f =
        bound_changed H.scheduling laws 32 (waits_in h f) (waits_in (e ∷ h) f) (λ i. weight (of_slot (e ∷ h) i)) (picked H.scheduling f (scheduler_of H h f) e)
        ∙ picked_bound f (scheduler_of H h f) e
        ∙ bound_same h f

    -- a pick of another
    picked_patience : (h : History) (e : Effect) (f i : ℕ) → Picks h e → H.scheduling.waits (scheduler_of H h f) i ≡ true → grants_to (e ∷ h) i ≡ grants_to h i
        → H.scheduling.patience (picked H.scheduling f (scheduler_of H h f) e) i + grants_in (e ∷ h) f ≤ H.scheduling.patience (scheduler_of H h f) i + grants_in h f
    picked_patience h (AtSlot t k (Booked (Granted a g b))) f i p on none =
        let d = H.scheduling in
        let s = scheduler_of H h f in
        let ne : i ≡ k → ⊥ = λ e. grind (arith, none, eq-eqb k i (sym e)) in
        by_test (eqb a f) (λ c. d.patience (cond c (d.turned s) s) i + (grants_in h f + cond c 1 0) ≤ d.patience s i + grants_in h f)
        (λ here. omega (arith, laws.pick_patience s k i (ap (λ x. d.chosen (scheduler_of H h x)) (sym (eqb-true a f here)) ∙ p) on ne))
        (λ _. omega arith)
    picked_patience h _ f i p on none = omega arith

    pub patient : (h : History) (e : Effect) (f i : ℕ) → Picks h e → H.scheduling.waits (scheduler_of H h f) i ≡ waits_in h f i → waits_in h f i ≡ true → waits_in (e ∷ h) f i ≡ true → grants_to (e ∷ h) i ≡ grants_to h i
        → H.scheduling.patience (scheduler_of H (e ∷ h) f) i + grants_in (e ∷ h) f ≤ H.scheduling.patience (scheduler_of H h f) i + grants_in h f
    patient h e f i p same was is none =
        let d = H.scheduling in
        let s = scheduler_of H h f in
        let on : d.waits s i ≡ true = same ∙ was in
        let turn = picked_patience h e f i p on none in
        let rest = patience_changed d laws 32 (waits_in h f) (waits_in (e ∷ h) f) (λ j. weight (of_slot (e ∷ h) j)) (picked d f s e) i was is (picked_keeps H laws f s e i ∙ on) in
        omega arith
