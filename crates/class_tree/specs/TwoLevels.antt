-- A tree of two levels keeps the laws of a scheduler of 32 slots, by the laws of the levels alone.
use Rattle.std.specs.Prelude.{◌≡◌, ℕ, ◌+◌, ◌*◌, ◌/◌, ◌%◌, ◌<◌, ◌≤◌, true, false, ◌⊎◌, List, length, Some, None, Option, ◌≢◌, slice_index_or, slice_set, refl}
use Rattle.std.proofs.Common.{inl, inr, sym, ◌∙◌, ap, subst, ⊎_elim, arith}
use Rattle.std.proofs.lemmas.List.{set-get_or, set_past}
use Rattle.std.proofs.lemmas.Bool.{false_from_ne_true, cond_both, cases_lt, cases_eq, both_ways}
use Rattle.meaning.proofs.AnyBelow.{any_below_false}
use Rattle.class_tree.specs.Levels.{Levels, Tree}
use Rattle.class_tree.specs.Rule.{class_weight, slot_in, any_waits, slots_of, Sound, waits, weight, slots_raised, class_raised, raised, slots_lowered, class_lowered, lowered, chosen_in, chosen, slots_after, turned, patience}
use Rattle.class_tree.specs.Kept.{any_one, slots_past, slots_set}

-- slots that differ, differ in class or in place
apart : (i j : ℕ) → (j ≢ i) → j / 8 ≡ i / 8 → j % 8 ≢ i % 8
apart i j ne e f = ne (omega arith)

slot_class : (c p : ℕ) → p < 8 → (c * 8 + p) / 8 ≡ c
slot_class c p l = omega arith

slot_place : (c p : ℕ) → p < 8 → (c * 8 + p) % 8 ≡ p
slot_place c p l = omega arith

abbrev pub tree : (k : Levels) → k.Outer → List k.Inner → Tree k
tree k classes slots = record { classes = classes; slots = slots }

pub same_parts : {k : Levels} {p q : k.Outer} {a b : List k.Inner} → p ≡ q → a ≡ b → tree k p a ≡ tree k q b
same_parts {k} e f = λ i. tree k (e i) (f i)

module _ (k : Levels) (t : Tree k) (sound : Sound k t) where
  -- past the last slot nothing waits
  pub waits_past : (i : ℕ) → 32 ≤ i → waits k t i ≡ false
  waits_past i l = ap (λ (m : k.Inner). k.inner.waits m (i % 8)) (slots_past k t sound (i / 8) (omega arith)) ∙ k.fresh_idle (i % 8)

  pub waits_below : (i : ℕ) → waits k t i ≡ true → i < 32
  waits_below i b = grind (arith, waits_past i, cases_lt i 32)

  -- the class of a slot that waits does too
  class_waits : (i : ℕ) → waits k t i ≡ true → k.outer.waits t.classes (i / 8) ≡ true
  class_waits i b = sound.1 (i / 8) ∙ any_one k (slots_of k t (i / 8)) (i % 8) b

  -- What holds of slot j in the slots of its class: these are the slots that were put in place, or as they were.
  after_set : (P : k.Inner → Type 0) (c : ℕ) (m : k.Inner) (j : ℕ)
      → (j / 8 ≡ c → c < 4 → P m)
      → (((j / 8 ≢ c) ⊎ (4 ≤ j / 8)) → P (slots_of k t (j / 8)))
      → P (slice_index_or (slice_set t.slots c m) (j / 8) k.fresh)
  after_set P c m j here there =
      elim (slots_set k t sound c (j / 8) m) [ inl x ↦ subst P (sym x.2) (here x.0 x.1) | inr x ↦ subst P (sym x.0) (there x.1) ]

  -- What a question about the slots of j's class answers stays, where the slots that were put in place answer it as before.
  after_same : {X : Type 0} (f : k.Inner → X) (c : ℕ) (m : k.Inner) (j : ℕ)
      → (j / 8 ≡ c → f m ≡ f (slots_of k t c))
      → f (slice_index_or (slice_set t.slots c m) (j / 8) k.fresh) ≡ f (slots_of k t (j / 8))
  after_same f c m j h =
      after_set (λ x. f x ≡ f (slots_of k t (j / 8))) c m j (λ e _. h e ∙ ap (λ d. f (slots_of k t d)) (sym e)) (λ _. refl)

  -- slot j, of class c, waits among the slots of c
  waits_there : (j c : ℕ) → waits k t j ≡ true → j / 8 ≡ c → k.inner.waits (slots_of k t c) (j % 8) ≡ true
  waits_there j c b e = subst (λ d. k.inner.waits (slots_of k t d) (j % 8) ≡ true) e b

  -- raise
  pub raise_adds : (i w : ℕ) → i < 32 → 1 ≤ w → w ≤ 8 → waits k (raised k t i w) i ≡ true
  raise_adds i w l least most =
      after_set (λ m. k.inner.waits m (i % 8) ≡ true) (i / 8) (slots_raised k t i w) i
      (λ _ _. k.inner_laws.raise_adds (slots_of k t (i / 8)) (i % 8) w (omega arith) least most)
      (λ x. absurd (omega arith))

  pub raise_weight : (i w : ℕ) → i < 32 → 1 ≤ w → w ≤ 8 → waits k t i ≡ false → weight k (raised k t i w) i ≡ w
  raise_weight i w l least most b =
      after_set (λ m. k.inner.weight m (i % 8) ≡ w) (i / 8) (slots_raised k t i w) i
      (λ _ _. k.inner_laws.raise_weight (slots_of k t (i / 8)) (i % 8) w (omega arith) least most b)
      (λ x. absurd (omega arith))

  pub raise_others : (i w j : ℕ) → (j ≢ i) → waits k (raised k t i w) j ≡ waits k t j
  raise_others i w j ne =
      after_same (λ m. k.inner.waits m (j % 8)) (i / 8) (slots_raised k t i w) j
      (λ e. k.inner_laws.raise_others (slots_of k t (i / 8)) (i % 8) w (j % 8) (apart i j ne e))

  pub raise_other_weights : (i w j : ℕ) → waits k t j ≡ true → (j ≢ i) → weight k (raised k t i w) j ≡ weight k t j
  raise_other_weights i w j b ne =
      after_same (λ m. k.inner.weight m (j % 8)) (i / 8) (slots_raised k t i w) j
      (λ e. k.inner_laws.raise_other_weights (slots_of k t (i / 8)) (i % 8) w (j % 8) (waits_there j (i / 8) b e) (apart i j ne e))

  -- slots that are put back as they were
  put_back : (c : ℕ) (m : k.Inner) → m ≡ slots_of k t c → slice_set t.slots c m ≡ t.slots
  put_back c m e = ap (λ (x : k.Inner). slice_set t.slots c x) e ∙ set-get_or t.slots c k.fresh

  -- where the slots of the class stay, all stays
  pub raise_still : (i w : ℕ) → slots_raised k t i w ≡ slots_of k t (i / 8) → raised k t i w ≡ t
  raise_still i w e =
      let c = i / 8 in
      let m = slots_raised k t i w in
      same_parts
      (cond_both (any_waits k m) (k.outer.raised t.classes c (class_weight c)) t.classes (λ x. x ≡ t.classes)
      (λ b. k.outer_laws.raise_waiting t.classes c (class_weight c) (sound.1 c ∙ sym (ap (λ (x : k.Inner). any_waits k x) e) ∙ b))
      (λ _. refl))
      (put_back c m e)

  pub raise_outside : (i w : ℕ) → 32 ≤ i → raised k t i w ≡ t
  raise_outside i w l =
      let c = i / 8 in
      let m = slots_raised k t i w in
      let h : length t.slots ≤ c = omega (arith, sound.0) in
      same_parts
      (cond_both (any_waits k m) (k.outer.raised t.classes c (class_weight c)) t.classes (λ x. x ≡ t.classes)
      (λ _. k.outer_laws.raise_outside t.classes c (class_weight c) (omega arith))
      (λ _. refl))
      (set_past t.slots c m h)

  -- lower
  pub lower_removes : (i : ℕ) → waits k (lowered k t i) i ≡ false
  lower_removes i =
      after_set (λ m. k.inner.waits m (i % 8) ≡ false) (i / 8) (slots_lowered k t i) i
      (λ _ _. k.inner_laws.lower_removes (slots_of k t (i / 8)) (i % 8))
      (λ x. elim x [ inl ne ↦ absurd (ne refl) | inr l ↦ waits_past i (omega arith) ])

  pub lower_others : (i j : ℕ) → (j ≢ i) → waits k (lowered k t i) j ≡ waits k t j
  lower_others i j ne =
      after_same (λ m. k.inner.waits m (j % 8)) (i / 8) (slots_lowered k t i) j
      (λ e. k.inner_laws.lower_others (slots_of k t (i / 8)) (i % 8) (j % 8) (apart i j ne e))

  pub lower_other_weights : (i j : ℕ) → waits k t j ≡ true → (j ≢ i) → weight k (lowered k t i) j ≡ weight k t j
  lower_other_weights i j b ne =
      after_same (λ m. k.inner.weight m (j % 8)) (i / 8) (slots_lowered k t i) j
      (λ e. k.inner_laws.lower_other_weights (slots_of k t (i / 8)) (i % 8) (j % 8) (waits_there j (i / 8) b e) (apart i j ne e))

  pub lower_idle : (i : ℕ) → waits k t i ≡ false → lowered k t i ≡ t
  lower_idle i b =
      let c = i / 8 in
      let m = slots_lowered k t i in
      let e : m ≡ slots_of k t c = k.inner_laws.lower_idle (slots_of k t c) (i % 8) b in
      same_parts
      (cond_both (any_waits k m) t.classes (k.outer.lowered t.classes c) (λ x. x ≡ t.classes)
      (λ _. refl)
      (λ a. k.outer_laws.lower_idle t.classes c (sound.1 c ∙ sym (ap (λ (x : k.Inner). any_waits k x) e) ∙ a)))
      (put_back c m e)

  -- the cases of a pick: no class, or a slot of a class
  by_pick : (P : Option ℕ → Tree k → Type 0)
      → (k.outer.chosen t.classes ≡ None → P None (tree k (k.outer.turned t.classes) t.slots))
      → ((c p : ℕ) → k.outer.chosen t.classes ≡ Some c → k.inner.chosen (slots_of k t c) ≡ Some p
      → P (Some (c * 8 + p)) (tree k (k.outer.turned t.classes) (slice_set t.slots c (k.inner.turned (slots_of k t c)))))
      → P (chosen k t) (turned k t)
  by_pick P none some = outer (k.outer.chosen t.classes) refl
    where
      inner : (c : ℕ) → k.outer.chosen t.classes ≡ Some c → (q : Option ℕ) → k.inner.chosen (slots_of k t c) ≡ q
          → P (slot_in c q) (tree k (k.outer.turned t.classes) (slice_set t.slots c (k.inner.turned (slots_of k t c))))
      inner c e (Some p) f = some c p e f
      inner c e None f =
          let m = slots_of k t c in
          absurd (both_ways (k.outer.waits t.classes c) (sound.1 c ∙ any_below_false 8 (k.inner.waits m) (k.inner_laws.pick_absent m f)) (k.outer_laws.pick_waits t.classes c e))

      outer : (q : Option ℕ) → k.outer.chosen t.classes ≡ q → P (chosen_in k t q) (tree k (k.outer.turned t.classes) (slots_after k t q))
      outer (Some c) e = inner c e (k.inner.chosen (slots_of k t c)) refl
      outer None e = none e

  pub pick_absent : chosen k t ≡ None → (i : ℕ) → waits k t i ≡ false
  pick_absent e i =
      by_pick (λ o _. o ≡ None → waits k t i ≡ false)
      (λ h _.
      false_from_ne_true (waits k t i) (λ b. both_ways (k.outer.waits t.classes (i / 8)) (k.outer_laws.pick_absent t.classes h (i / 8)) (class_waits i b)))
      (λ c p h g f. cc)
      e

  pub pick_waits : (i : ℕ) → chosen k t ≡ Some i → waits k t i ≡ true
  pick_waits i e =
      by_pick (λ o _. o ≡ Some i → waits k t i ≡ true)
      (λ h f. cc)
      (λ c p h g f.
      let m = slots_of k t c in
      let b : k.inner.waits m p ≡ true = k.inner_laws.pick_waits m p g in
      let l : p < 8 = k.inner_laws.waits_below m p b in
      let q : c * 8 + p ≡ i = cc in
      subst (λ x. waits k t x ≡ true) q
      (ap (λ d. k.inner.waits (slots_of k t d) ((c * 8 + p) % 8)) (slot_class c p l) ∙ ap (λ x. k.inner.waits m x) (slot_place c p l) ∙ b))
      e

  pub pick_idle : ((i : ℕ) → waits k t i ≡ false) → chosen k t ≡ None
  pick_idle idle = nothing (chosen k t) refl
    where
      nothing : (o : Option ℕ) → chosen k t ≡ o → o ≡ None
      nothing (Some i) e = absurd (both_ways (waits k t i) (idle i) (pick_waits i e))
      nothing None e = refl

  pub pick_still : chosen k t ≡ None → turned k t ≡ t
  pick_still e =
      by_pick (λ o x. o ≡ None → x ≡ t)
      (λ h _. same_parts (k.outer_laws.pick_still t.classes h) refl)
      (λ c p h g f. cc)
      e

  pub pick_keeps : (i : ℕ) → waits k (turned k t) i ≡ waits k t i
  pick_keeps i =
      by_pick (λ _ x. waits k x i ≡ waits k t i)
      (λ _. refl)
      (λ c p _ _. after_same (λ m. k.inner.waits m (i % 8)) c (k.inner.turned (slots_of k t c)) i (λ _. k.inner_laws.pick_keeps (slots_of k t c) (i % 8)))

  pub pick_weights : (i : ℕ) → waits k t i ≡ true → weight k (turned k t) i ≡ weight k t i
  pick_weights i b =
      by_pick (λ _ x. weight k x i ≡ weight k t i)
      (λ _. refl)
      (λ c p _ _.
      after_same (λ m. k.inner.weight m (i % 8)) c (k.inner.turned (slots_of k t c)) i (λ e. k.inner_laws.pick_weights (slots_of k t c) (i % 8) (waits_there i c b e)))

  -- A pick of another class lowers the part of the class. One of the same class lowers the part of the slot by 25 at least,
  -- and the part of the class stays within its bound of 24.
  pub pick_patience : (i j : ℕ) → chosen k t ≡ Some i → waits k t j ≡ true → (j ≢ i) → patience k (turned k t) j < patience k t j
  pick_patience i j e b ne =
      by_pick (λ o x. o ≡ Some i → patience k x j < patience k t j)
      (λ h f. cc)
      (λ c p h g f.
      let q : c * 8 + p ≡ i = cc in
      let s = slots_of k t c in
      let classes = k.outer.turned t.classes in
      let l : p < 8 = k.inner_laws.waits_below s p (k.inner_laws.pick_waits s p g) in
      let class = class_waits j b in
      after_set (λ m. 25 * k.inner.patience m (j % 8) + k.outer.patience classes (j / 8) < patience k t j) c (k.inner.turned s) j
      (λ same _.
      let other : j % 8 ≡ p → ⊥ = λ y. ne (let z = same in omega arith) in
      let here : k.inner.waits s (j % 8) ≡ true = waits_there j c b same in
      let less : k.inner.patience (k.inner.turned s) (j % 8) < k.inner.patience s (j % 8) = k.inner_laws.pick_patience s p (j % 8) g here other in
      let old : k.inner.patience (slots_of k t (j / 8)) (j % 8) ≡ k.inner.patience s (j % 8) = ap (λ d. k.inner.patience (slots_of k t d) (j % 8)) same in
      let most : k.outer.patience classes (j / 8) ≤ k.outer.bound classes = k.outer_laws.bounded classes (j / 8) (k.outer_laws.pick_keeps t.classes (j / 8) ∙ class) in
      omega (arith, k.outer_bound classes))
      (λ why.
      let below : j < 32 = waits_below j b in
      let differ : j / 8 ≡ c → ⊥ = elim why [ inl n ↦ n | inr y ↦ absurd (omega arith) ] in
      let less : k.outer.patience classes (j / 8) < k.outer.patience t.classes (j / 8) = k.outer_laws.pick_patience t.classes c (j / 8) h class differ in
      omega arith))
      e

  pub bounded : (i : ℕ) → waits k t i ≡ true → patience k t i ≤ 1424
  bounded i b =
      let m = slots_of k t (i / 8) in
      omega (arith, k.inner_laws.bounded m (i % 8) b, k.inner_bound m, k.outer_laws.bounded t.classes (i / 8) (class_waits i b), k.outer_bound t.classes)

  -- neither the part of the class nor that of the slot grows
  parts : (classes : k.Outer) (c : ℕ) (m : k.Inner) (j : ℕ)
      → k.outer.patience classes (j / 8) ≤ k.outer.patience t.classes (j / 8)
      → (j / 8 ≡ c → k.inner.patience m (j % 8) ≤ k.inner.patience (slots_of k t c) (j % 8))
      → patience k (tree k classes (slice_set t.slots c m)) j ≤ patience k t j
  parts classes c m j l h =
      after_set (λ x. 25 * k.inner.patience x (j % 8) + k.outer.patience classes (j / 8) ≤ patience k t j) c m j
      (λ same _.
      let old : k.inner.patience (slots_of k t (j / 8)) (j % 8) ≡ k.inner.patience (slots_of k t c) (j % 8) = ap (λ d. k.inner.patience (slots_of k t d) (j % 8)) same in
      omega (arith, h same))
      (λ _. omega arith)

  pub raise_patience : (i w j : ℕ) → waits k t j ≡ true → (j ≢ i) → patience k (raised k t i w) j ≤ patience k t j
  raise_patience i w j b ne =
      let c = i / 8 in
      let m = slots_raised k t i w in
      parts (class_raised k t.classes c m) c m j
      (cond_both (any_waits k m) (k.outer.raised t.classes c (class_weight c)) t.classes (λ x. k.outer.patience x (j / 8) ≤ k.outer.patience t.classes (j / 8))
      (λ _. ⊎_elim
      (λ (y : j / 8 ≡ c).
      let still = k.outer_laws.raise_waiting t.classes c (class_weight c) (subst (λ d. k.outer.waits t.classes d ≡ true) y (class_waits j b)) in
      omega (arith, ap (λ (x : k.Outer). k.outer.patience x (j / 8)) still))
      (λ (y : j / 8 ≡ c → ⊥). k.outer_laws.raise_patience t.classes c (class_weight c) (j / 8) (class_waits j b) y)
      (cases_eq (j / 8) c))
      (λ _. omega arith))
      (λ y. k.inner_laws.raise_patience (slots_of k t c) (i % 8) w (j % 8) (waits_there j c b y) (apart i j ne y))

  pub lower_patience : (i j : ℕ) → waits k t j ≡ true → (j ≢ i) → patience k (lowered k t i) j ≤ patience k t j
  lower_patience i j b ne =
      let c = i / 8 in
      let s = slots_of k t c in
      let m = slots_lowered k t i in
      parts (class_lowered k t.classes c m) c m j
      (cond_both (any_waits k m) t.classes (k.outer.lowered t.classes c) (λ x. k.outer.patience x (j / 8) ≤ k.outer.patience t.classes (j / 8))
      (λ _. omega arith)
      (λ a. ⊎_elim
      (λ (y : j / 8 ≡ c).
      let on : k.inner.waits m (j % 8) ≡ true = k.inner_laws.lower_others s (i % 8) (j % 8) (apart i j ne y) ∙ waits_there j c b y in
      absurd (both_ways (any_waits k m) a (any_one k m (j % 8) on)))
      (λ (y : j / 8 ≡ c → ⊥). k.outer_laws.lower_patience t.classes c (j / 8) (class_waits j b) y)
      (cases_eq (j / 8) c)))
      (λ y. k.inner_laws.lower_patience s (i % 8) (j % 8) (waits_there j c b y) (apart i j ne y))
