-- A scheduler that is told who begins and who ceases to wait.
--   changed_same       nothing, for a slot that waits as before
--   unchanged          nothing, where nobody does
--   changed_one        one slot, where only that one does
--   waits_changed      then those wait whom it was told of
--   patience_changed   and who waits on has no more patience than before
--   bound_changed      the bound stays
use Rattle.std.proofs.Common.{◌≡◌, ℕ, zero, suc, ◌<◌, ◌≤◌, Bool, true, false, cond, ltb, sym, refl, ap, ◌∙◌, subst, ⊎_elim, arith}
use Rattle.std.proofs.lemmas.Bool.{cond-true, cond-false, cases_eq, lt-ltb, le-ltb, cases_lt}
use Rattle.meaning.specs.Scheduling.{Scheduling, SchedulingLaws}
use Rattle.law.specs.History.{changed, changed_to}

module _ {S : Type 0} (d : Scheduling S) where
  pub changed_same : (s : S) (i w : ℕ) (a b : Bool) → a ≡ b → changed d s i w a b ≡ s
  changed_same s i w a true e = ap (λ (c : Bool). cond c s (d.raised s i w)) e
  changed_same s i w a false e = ap (λ (c : Bool). cond c (d.lowered s i) s) e

  pub unchanged : (n : ℕ) (before now : ℕ → Bool) (w : ℕ → ℕ) (s : S) → ((j : ℕ) → j < n → before j ≡ now j) → changed_to d n before now w s ≡ s
  unfolding changed_to
  unchanged zero before now w s same = refl
  unchanged (suc n) before now w s same =
      changed_same (changed_to d n before now w s) n (w n) (before n) (now n) (same n (omega arith)) ∙ unchanged n before now w s (λ j l. same j (omega arith))

  pub changed_one : (i n : ℕ) (before now : ℕ → Bool) (w : ℕ → ℕ) (s : S) → i < n → ((j : ℕ) → j < n → (j ≡ i → ⊥) → before j ≡ now j)
      → changed_to d n before now w s ≡ changed d s i (w i) (before i) (now i)
  unfolding changed_to
  changed_one i zero before now w s l same = absurd (omega arith)
  changed_one i (suc n) before now w s l same =
      ⊎_elim
      (λ (e : n ≡ i).
      ap (λ x. changed d x n (w n) (before n) (now n)) (unchanged n before now w s (λ j m. same j (omega arith) (λ (q : j ≡ i). omega arith)))
      ∙ ap (λ x. changed d s x (w x) (before x) (now x)) e)
      (λ (ne : n ≡ i → ⊥).
      changed_same (changed_to d n before now w s) n (w n) (before n) (now n) (same n (omega arith) ne)
      ∙ changed_one i n before now w s (omega arith) (λ j m. same j (omega arith)))
      (cases_eq n i)

module _ {S : Type 0} (d : Scheduling S) (laws : SchedulingLaws 32 d) where
  -- one slot: it waits as it was told, and no other is touched
  changed_own : (s : S) (i w : ℕ) (before now : Bool) → d.waits s i ≡ before → i < 32 → (now ≡ true → (1 ≤ w) × (w ≤ 8)) → d.waits (changed d s i w before now) i ≡ now
  changed_own s i w false true e l h = laws.raise_adds s i w l (h refl).0 (h refl).1
  changed_own s i w true false e l h = laws.lower_removes s i
  changed_own s i w _ _ e l h = e

  changed_other : (s : S) (i w j : ℕ) (before now : Bool) → (j ≡ i → ⊥) → d.waits (changed d s i w before now) j ≡ d.waits s j
  changed_other s i w j false true ne = laws.raise_others s i w j ne
  changed_other s i w j true false ne = laws.lower_others s i j ne
  changed_other s i w j _ _ ne = refl

  changed_patience : (s : S) (i w j : ℕ) (before now : Bool) → (j ≡ i → ⊥) → d.waits s j ≡ true → d.patience (changed d s i w before now) j ≤ d.patience s j
  changed_patience s i w j false true ne on = laws.raise_patience s i w j on ne
  changed_patience s i w j true false ne on = laws.lower_patience s i j on ne
  changed_patience s i w j _ _ ne on = omega arith

  changed_bound : (s : S) (i w : ℕ) (before now : Bool) → d.bound (changed d s i w before now) ≡ d.bound s
  changed_bound s i w false true = laws.raise_bound s i w
  changed_bound s i w true false = laws.lower_bound s i
  changed_bound s i w _ _ = refl

  pub waits_changed : (n : ℕ) (before now : ℕ → Bool) (w : ℕ → ℕ) (s : S) → n ≤ 32 → ((j : ℕ) → d.waits s j ≡ before j) → ((j : ℕ) → now j ≡ true → (1 ≤ w j) × (w j ≤ 8))
      → (j : ℕ) → d.waits (changed_to d n before now w s) j ≡ cond (ltb j n) (now j) (before j)
  unfolding changed_to
  waits_changed zero before now w s h e weights j = e j ∙ sym (cond-false _ _ _ (le-ltb j 0 (omega arith)))
  waits_changed (suc n) before now w s h e weights j =
      let x = changed_to d n before now w s in
      let rest = waits_changed n before now w s (omega arith) e weights in
      ⊎_elim
      (λ (q : j ≡ n).
      subst (λ y. d.waits (changed d x n (w n) (before n) (now n)) y ≡ cond (ltb y (suc n)) (now y) (before y)) (sym q)
      (changed_own x n (w n) (before n) (now n) (rest n ∙ cond-false _ _ _ (le-ltb n n (omega arith))) (omega arith) (weights n)
      ∙ sym (cond-true _ _ _ (lt-ltb n (suc n) (omega arith)))))
      (λ (ne : j ≡ n → ⊥).
      changed_other x n (w n) j (before n) (now n) ne ∙ rest j
      ∙ ap (λ b. cond b (now j) (before j))
      (grind (arith, ne, cases_lt j n, lt-ltb j n, lt-ltb j (suc n), le-ltb j n, le-ltb j (suc n))))
      (cases_eq j n)

  -- of a slot that waits on
  on_changed : (n : ℕ) (before now : ℕ → Bool) (w : ℕ → ℕ) (s : S) (j : ℕ) → before j ≡ true → now j ≡ true → d.waits s j ≡ true
      → (d.waits (changed_to d n before now w s) j ≡ true) × (d.patience (changed_to d n before now w s) j ≤ d.patience s j)
  unfolding changed_to
  on_changed zero before now w s j was is on = (on, omega arith)
  on_changed (suc n) before now w s j was is on =
      let x = changed_to d n before now w s in
      let rest = on_changed n before now w s j was is on in
      ⊎_elim
      (λ (q : j ≡ n).
      let same : changed d x n (w n) (before n) (now n) ≡ x = changed_same d x n (w n) (before n) (now n) (ap before (sym q) ∙ was ∙ sym is ∙ ap now q) in
      subst (λ y. (d.waits y j ≡ true) × (d.patience y j ≤ d.patience s j)) (sym same) rest)
      (λ (ne : j ≡ n → ⊥).
      (changed_other x n (w n) j (before n) (now n) ne ∙ rest.0, omega (arith, changed_patience x n (w n) j (before n) (now n) ne rest.0, rest.1)))
      (cases_eq j n)

  pub patience_changed : (n : ℕ) (before now : ℕ → Bool) (w : ℕ → ℕ) (s : S) (j : ℕ) → before j ≡ true → now j ≡ true → d.waits s j ≡ true
      → d.patience (changed_to d n before now w s) j ≤ d.patience s j
  patience_changed n before now w s j was is on = (on_changed n before now w s j was is on).1

  pub bound_changed : (n : ℕ) (before now : ℕ → Bool) (w : ℕ → ℕ) (s : S) → d.bound (changed_to d n before now w s) ≡ d.bound s
  unfolding changed_to
  bound_changed zero before now w s = refl
  bound_changed (suc n) before now w s = changed_bound (changed_to d n before now w s) n (w n) (before n) (now n) ∙ bound_changed n before now w s
