-- The row of a grant that has ended stays as it is, and a refused call leaves all as it was.
--   SameRow       the row of the grant is as it was
--   row_stays      with one call more
--   refused_same   a call that is refused leaves the state
use Rattle.std.proofs.Common.{◌≡◌, ℕ, ◌<◌, Bool, true, false, get_or, Ok, refl, ap, ◌∙◌, arith, Err}
use Rattle.std.proofs.lemmas.List.{get_or-set_other}
use Rattle.std.proofs.lemmas.Bool.{cases_lt, false≢true}
use Rattle.meaning.specs.Scheduling.{SchedulingLaws}
use Rattle.tables.specs.declared.row.Row.{Row}
use Rattle.tables.specs.Rows.{is_open}
use Rattle.grant_calls.specs.Grants.{row}
use Rattle.manager.specs.declared.call.Call.{Call}
use Rattle.manager.specs.declared.call.Call.TheVariants.{Open, Request, Poll, TakeUp, Settle, Expire, Report, Move, Merge, Close}
use Rattle.manager.specs.Answers.{Answer}
use Rattle.manager.specs.State.{State}
use Rattle.manager.specs.Steps.{Stepped, of_poll, step}
use Rattle.law.specs.History.{History, ends, issued}
use Rattle.law.proofs.Calls.{open_cases, request_cases, take_up_cases, settle_cases, expire_cases, report_cases, move_cases, merge_cases, close_cases}
use Rattle.law.proofs.Ledger.{flag}
use Rattle.law.proofs.Kept.{Host, Kept}
use Rattle.law.proofs.Granting.{found_due}
use Rattle.law.proofs.Polling.{poll_ways}

module _ {C S : Type 0} (H : Host C S) (laws : SchedulingLaws 32 H.scheduling) (h : History) (s : State C S) (K : Kept H h s) (g : ℕ) (over : ends h g ≡ 1) (z : Row) where
  there : g < issued h
  there = grind (arith, over, cases_lt g (issued h), K.ledger.unissued g)

  -- it is not the row of an open grant
  other : (j : ℕ) → is_open (row s.rows j).fate ≡ true → g ≡ j → ⊥
  other j live e =
      let one : flag (is_open (row s.rows g).fate) ≡ 1 = ap (λ x. flag (is_open (row s.rows x).fate)) e ∙ ap flag live in
      let once = (K.ledger.grants g there).once in
      omega arith

  abbrev SameRow : Stepped C S → Type 0
  SameRow o = get_or o.state.rows g z ≡ get_or s.rows g z

  pub row_stays : (c : Call) → SameRow (step H.control H.scheduling s c)
  row_stays (Open t i f w l) = open_cases H.control H.scheduling s SameRow t i f w l (λ n _. refl) (λ _. refl)
  row_stays (Poll t f) =
      poll_ways H s t f (λ r. SameRow (of_poll s r)) (λ n. refl) refl refl
      (λ i I. get_or-set_other s.rows s.core.issued g _ z (λ (e : g ≡ s.core.issued). let l = there in omega (arith, K.issued_is)))
  row_stays (TakeUp t j) = take_up_cases H.control H.scheduling s SameRow t j (λ n _. refl) (λ _ n _. refl) (λ _ p. get_or-set_other s.rows j g _ z (other j p.0))
  row_stays (Settle t j n) = settle_cases H.control H.scheduling s SameRow t j n (λ k _. refl) (λ _ k _. refl) (λ _ p. get_or-set_other s.rows j g _ z (other j p.0))
  row_stays (Expire t) =
      expire_cases H.control H.scheduling s SameRow t (λ n _. refl) refl (λ j due n _. refl) (λ j due _. get_or-set_other s.rows j g _ z (other j (found_due H laws h s K t j due).1))
  row_stays _ = refl

abbrev pub is_refused : Answer → Bool
is_refused (Ok t) = false
is_refused (Err e) = true

module _ {C S : Type 0} (H : Host C S) (s : State C S) where
  abbrev Left : Stepped C S → Type 0
  Left o = is_refused o.answer ≡ true → o.state ≡ s

  -- an accepted call
  accepted : {s' : State C S} → false ≡ true → s' ≡ s
  accepted e = absurd (false≢true e)

  pub refused_same : (c : Call) → Left (step H.control H.scheduling s c)
  refused_same (Open t i f w l) = open_cases H.control H.scheduling s Left t i f w l (λ n _ _. refl) (λ _. accepted)
  refused_same (Request t i) = request_cases H.control H.scheduling s Left t i (λ n _ _. refl) (λ _. accepted)
  refused_same (Poll t f) = poll_ways H s t f (λ r. Left (of_poll s r)) (λ n _. refl) accepted accepted (λ i I. accepted)
  refused_same (TakeUp t j) = take_up_cases H.control H.scheduling s Left t j (λ n _ _. refl) (λ _ n _ _. refl) (λ _ _. accepted)
  refused_same (Settle t j n) = settle_cases H.control H.scheduling s Left t j n (λ k _ _. refl) (λ _ k _ _. refl) (λ _ _. accepted)
  refused_same (Expire t) = expire_cases H.control H.scheduling s Left t (λ n _ _. refl) accepted (λ g _ n _ _. refl) (λ g _ _. accepted)
  refused_same (Report t i b) = report_cases H.control H.scheduling s Left t i b (λ n _ _. refl) (λ _. accepted)
  refused_same (Move t i f) = move_cases H.control H.scheduling s Left t i f (λ n _ _. refl) (λ _. accepted)
  refused_same (Merge t a b) = merge_cases H.control H.scheduling s Left t a b (λ n _ _. refl) (λ _. accepted)
  refused_same (Close t i) = close_cases H.control H.scheduling s Left t i (λ n _ _. refl) (λ _. accepted)
