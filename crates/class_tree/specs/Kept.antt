-- The rule leads from sound trees to sound trees.
--   class_weight_range  a class has a weight of 1 to 8
--   same_tests    two tests are equal if each tells the other
--   any_one       one slot that waits is enough for its class to wait
--   any_raised, any_lowered, any_turned  whether a slot of a class waits after a raise, a lower and a pick in it
--   slots_past    there is no slot past the last class
--   slots_set     the slots of class d after those of class c are replaced
--   set_sound     a tree stays sound where the slots of class c are replaced, if class c then waits as they say
--   raised_sound, lowered_sound, after_sound, turned_sound  so it stays sound after a raise, a lower and a pick
use Rattle.std.specs.Prelude.{◌≡◌, ℕ, zero, suc, ◌/◌, ◌%◌, ◌<◌, ◌≤◌, Bool, true, ◌⊎◌, length, Some, None, Option, ◌≢◌, slice_index_or, slice_set, refl}
use Rattle.std.proofs.Common.{sym, ◌∙◌, ap, inl, inr, ⊎_elim, arith, length-set}
use Rattle.std.proofs.lemmas.List.{get_or_past}
use Rattle.std.proofs.lemmas.Grind.{common_steps}
use Rattle.std.proofs.lemmas.Bool.{false_from_ne_true, cond_both, cases_lt, cases_eq, cases_Bool, both_ways}
use Rattle.meaning.proofs.AnyBelow.{any_below_some, any_below_true, any_below_false}
use Rattle.class_tree.specs.Levels.{Levels, Tree}
use Rattle.class_tree.specs.Rule.{class_weight, any_waits, slots_of, Sound, slots_raised, class_raised, raised, slots_lowered, class_lowered, lowered, slots_after, turned}

pub class_weight_range : (c : ℕ) → (1 ≤ class_weight c) × (class_weight c ≤ 8)
class_weight_range zero = (omega arith, omega arith)
class_weight_range (suc zero) = (omega arith, omega arith)
class_weight_range (suc (suc zero)) = (omega arith, omega arith)
class_weight_range (suc (suc (suc c))) = (omega arith, omega arith)

same_tests : (a b : Bool) → (a ≡ true → b ≡ true) → (b ≡ true → a ≡ true) → a ≡ b
same_tests a b f h = grind (arith, cases_Bool a, cases_Bool b, f, h)

-- whether a slot of a class waits, as the class's own slots change
module _ (k : Levels) where
  pub any_one : (m : k.Inner) (i : ℕ) → k.inner.waits m i ≡ true → any_waits k m ≡ true
  any_one m i b = any_below_true 8 (k.inner.waits m) i (k.inner_laws.waits_below m i b) b

  any_raised : (m : k.Inner) (p w : ℕ) → any_waits k m ≡ true → any_waits k (k.inner.raised m p w) ≡ true
  any_raised m p w e =
      let one = any_below_some 8 (k.inner.waits m) e in
      elim (cases_eq one.0 p) [
        | inl q ↦ ap (λ (t : k.Inner). any_waits k t) (k.inner_laws.raise_waiting m p w (ap (λ x. k.inner.waits m x) (sym q) ∙ one.2)) ∙ e
        | inr q ↦ any_one (k.inner.raised m p w) one.0 (k.inner_laws.raise_others m p w one.0 q ∙ one.2)
      ]

  any_lowered : (m : k.Inner) (p : ℕ) → any_waits k (k.inner.lowered m p) ≡ true → any_waits k m ≡ true
  any_lowered m p e =
      let one = any_below_some 8 (k.inner.waits (k.inner.lowered m p)) e in
      let ne : one.0 ≡ p → ⊥ = λ q. both_ways (k.inner.waits (k.inner.lowered m p) p) (k.inner_laws.lower_removes m p) (ap (λ x. k.inner.waits (k.inner.lowered m p) x) (sym q) ∙ one.2) in
      any_one m one.0 (sym (k.inner_laws.lower_others m p one.0 ne) ∙ one.2)

  any_turned : (m : k.Inner) → any_waits k (k.inner.turned m) ≡ any_waits k m
  any_turned m =
      same_tests _ _
      (λ e. let one = any_below_some 8 (k.inner.waits (k.inner.turned m)) e in any_one m one.0 (sym (k.inner_laws.pick_keeps m one.0) ∙ one.2))
      (λ e. let one = any_below_some 8 (k.inner.waits m) e in any_one (k.inner.turned m) one.0 (k.inner_laws.pick_keeps m one.0 ∙ one.2))

module _ (k : Levels) (t : Tree k) (sound : Sound k t) where
  pub slots_past : (c : ℕ) → 4 ≤ c → slots_of k t c ≡ k.fresh
  slots_past c l = let h : length t.slots ≤ c = omega (arith, sound.0) in get_or_past t.slots c k.fresh h

  pub slots_set : (c d : ℕ) (m : k.Inner)
      → ((d ≡ c) × (c < 4) × (slice_index_or (slice_set t.slots c m) d k.fresh ≡ m)) ⊎ ((slice_index_or (slice_set t.slots c m) d k.fresh ≡ slots_of k t d) × ((d ≢ c) ⊎ (4 ≤ d)))
  slots_set c d m =
      let four = sound.0 in grind (arith, common_steps, cases_eq d c, cases_lt c 4)

  set_sound : (classes : k.Outer) (c : ℕ) (m : k.Inner)
      → ((d : ℕ) → (d ≢ c) → k.outer.waits classes d ≡ k.outer.waits t.classes d)
      → (c < 4 → k.outer.waits classes c ≡ any_waits k m)
      → Sound k (record { classes = classes; slots = slice_set t.slots c m })
  set_sound classes c m others here = (
    length-set t.slots c m ∙ sound.0,
    λ d. ⊎_elim
        (λ (x : (d ≡ c) × (c < 4) × (slice_index_or (slice_set t.slots c m) d k.fresh ≡ m)).
        ap (λ y. k.outer.waits classes y) x.0 ∙ here x.1 ∙ sym (ap (λ (y : k.Inner). any_waits k y) x.2))
        (λ (x : (slice_index_or (slice_set t.slots c m) d k.fresh ≡ slots_of k t d) × ((d ≢ c) ⊎ (4 ≤ d))).
        ⊎_elim (λ (ne : d ≡ c → ⊥). others d ne ∙ sound.1 d) (λ (l : 4 ≤ d). past d l) x.1 ∙ sym (ap (λ (y : k.Inner). any_waits k y) x.0))
        (slots_set c d m),
  )
    where
      past : (d : ℕ) → 4 ≤ d → k.outer.waits classes d ≡ any_waits k (slots_of k t d)
      past d l =
          false_from_ne_true (k.outer.waits classes d) (λ b. let h : d < 4 = k.outer_laws.waits_below classes d b in omega arith)
          ∙ sym (ap (λ (y : k.Inner). any_waits k y) (slots_past d l) ∙ any_below_false 8 (k.inner.waits k.fresh) k.fresh_idle)

  pub raised_sound : (i w : ℕ) → Sound k (raised k t i w)
  raised_sound i w =
      let c = i / 8 in
      let m = slots_raised k t i w in
      set_sound (class_raised k t.classes c m) c m
      (λ d ne. cond_both (any_waits k m) (k.outer.raised t.classes c (class_weight c)) t.classes (λ x. k.outer.waits x d ≡ k.outer.waits t.classes d)
      (λ _. k.outer_laws.raise_others t.classes c (class_weight c) d ne) (λ _. refl))
      (λ l. cond_both (any_waits k m) (k.outer.raised t.classes c (class_weight c)) t.classes (λ x. k.outer.waits x c ≡ any_waits k m)
      (λ b. k.outer_laws.raise_adds t.classes c (class_weight c) l (class_weight_range c).0 (class_weight_range c).1 ∙ sym b)
      (λ b. sound.1 c ∙ false_from_ne_true (any_waits k (slots_of k t c)) (λ a. both_ways (any_waits k m) b (any_raised k (slots_of k t c) (i % 8) w a)) ∙ sym b))

  pub lowered_sound : (i : ℕ) → Sound k (lowered k t i)
  lowered_sound i =
      let c = i / 8 in
      let m = slots_lowered k t i in
      set_sound (class_lowered k t.classes c m) c m
      (λ d ne. cond_both (any_waits k m) t.classes (k.outer.lowered t.classes c) (λ x. k.outer.waits x d ≡ k.outer.waits t.classes d)
      (λ _. refl) (λ _. k.outer_laws.lower_others t.classes c d ne))
      (λ l. cond_both (any_waits k m) t.classes (k.outer.lowered t.classes c) (λ x. k.outer.waits x c ≡ any_waits k m)
      (λ b. sound.1 c ∙ any_lowered k (slots_of k t c) (i % 8) b ∙ sym b)
      (λ b. k.outer_laws.lower_removes t.classes c ∙ sym b))

  after_sound : (p : Option ℕ) → Sound k (record { classes = k.outer.turned t.classes; slots = slots_after k t p })
  after_sound (Some c) =
      set_sound (k.outer.turned t.classes) c (k.inner.turned (slots_of k t c))
      (λ d ne. k.outer_laws.pick_keeps t.classes d)
      (λ l. k.outer_laws.pick_keeps t.classes c ∙ sound.1 c ∙ sym (any_turned k (slots_of k t c)))
  after_sound None = (sound.0, λ c. k.outer_laws.pick_keeps t.classes c ∙ sound.1 c)

  pub turned_sound : Sound k (turned k t)
  turned_sound = after_sound (k.outer.chosen t.classes)
