-- A report is heard exactly when its numbers are in range. Assumes nothing.
use Rattle.std.proofs.Common.{◌≡◌, ℕ, ◌^◌, ◌<◌, ◌≤◌, true, false, eqb, leb, Some, None, Option, refl, ap, ◌∙◌, arith}
use Rattle.std.proofs.lemmas.Bool.{cond_both, cond-true, cond-false, and_parts, leb-true, ltb-true, eqb-false}
use Rattle.meaning.specs.declared.report.Mode.{Mode}
use Rattle.meaning.specs.declared.report.Mode.TheVariants.{Clear, Loss, Mark, Silence}
use Rattle.meaning.specs.declared.report.Report.{Report}
use Rattle.meaning.specs.Reports.{mode_numbered, is_amount, sample_fits, in_range, heard, when_heard, told_by}

-- the numbers 0 to 3 are modes
pub mode_some : (n : ℕ) → n ≤ 3 → (m : Mode) × (mode_numbered n ≡ Some m)
mode_some n h =
    cond_both (eqb n 0) (Some Clear) _ (λ o. (m : Mode) × (o ≡ Some m)) (λ _. (Clear, refl))
    (λ a. cond_both (eqb n 1) (Some Loss) _ (λ o. (m : Mode) × (o ≡ Some m)) (λ _. (Loss, refl))
    (λ b. cond_both (eqb n 2) (Some Mark) _ (λ o. (m : Mode) × (o ≡ Some m)) (λ _. (Mark, refl))
    (λ c. cond_both (eqb n 3) (Some Silence) None (λ o. (m : Mode) × (o ≡ Some m)) (λ _. (Silence, refl))
    (λ d. absurd (omega (arith, eqb-false n 0 a, eqb-false n 1 b, eqb-false n 2 c, eqb-false n 3 d))))))

module _ (r : Report) where
  pub heard_some : in_range r ≡ true → (m : Mode) × (heard r ≡ Some m)
  heard_some e =
      let a = (and_parts (is_amount r.received) _ e).1 in
      let b = (and_parts (is_amount r.lost) _ a).1 in
      let c = (and_parts (is_amount r.flight) _ b).1 in
      let d = (and_parts (leb r.mode 3) (sample_fits r.sample) c).0 in
      let m = mode_some r.mode (leb-true r.mode 3 d) in
      (m.0, cond-true (in_range r) (mode_numbered r.mode) None e ∙ m.1)

  pub heard_none : in_range r ≡ false → heard r ≡ None
  heard_none e = cond-false (in_range r) (mode_numbered r.mode) None e

  -- a report that is heard is in range
  pub heard_in_range : (m : Mode) → heard r ≡ Some m → in_range r ≡ true
  heard_in_range m =
      let P : Option Mode → Type 0 = λ o. o ≡ Some m → in_range r ≡ true in
      cond_both (in_range r) (mode_numbered r.mode) None P (λ e _. e) (λ _ z. absurd (let x : ◌≡◌ {A = ℕ} 0 1 = cc in omega arith))

  pub received_amount : in_range r ≡ true → r.received < 2 ^ 32
  received_amount e = ltb-true r.received (2 ^ 32) (and_parts (is_amount r.received) _ e).0

when_heard_both : {S : Type 0} (o : Option Mode) (f : Mode → S) (s : S) (P : S → Type 0) → ((m : Mode) → P (f m)) → P s → P (when_heard o f s)
when_heard_both None f s P each none = none
when_heard_both (Some m) f s P each none = each m

-- a controller that takes a report's sample and then its mode
module _ {S : Type 0} (sampled : S → Report → S) (step : S → Report → Mode → S) (s : S) (r : Report) where
  -- what holds of the state, and of what each mode makes of it, holds after the report
  pub told_both : (P : S → Type 0) → ((m : Mode) → P (step (sampled s r) r m)) → P s → P (told_by sampled step s r)
  told_both P each none = when_heard_both (heard r) (step (sampled s r) r) s P each none

  -- a report in range acts
  pub told_acts : in_range r ≡ true → (P : S → Type 0) → ((m : Mode) → P (step (sampled s r) r m)) → P (told_by sampled step s r)
  told_acts e P each = let h = heard_some r e in rw h.1 (each h.0)

  -- a report out of range does nothing
  pub told_nothing : in_range r ≡ false → told_by sampled step s r ≡ s
  told_nothing e = ap (λ (o : Option Mode). when_heard o (step (sampled s r) r) s) (heard_none r e)

  -- a report that is heard acts by its mode
  pub told_as : (m : Mode) → heard r ≡ Some m → told_by sampled step s r ≡ step (sampled s r) r m
  told_as m e = ap (λ (o : Option Mode). when_heard o (step (sampled s r) r) s) e
