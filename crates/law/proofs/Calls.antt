-- Each call but a poll is refused with all as it was, or acts.
--   Nay, Yea     what is to be shown where one of the questions is answered 'no', and where none is
--   open_cases, request_cases, take_up_cases, settle_cases, expire_cases, report_cases, move_cases, merge_cases, close_cases
use Rattle.std.proofs.Common.{◌≡◌, ℕ, cond, eqb, List, length, set, Some, None, Ok, Err, Option, refl}
use Rattle.meaning.specs.declared.refusal.Reason.{Reason}
use Rattle.meaning.specs.declared.refusal.Refusal.{Refusal}
use Rattle.meaning.specs.Refusals.{about_nothing}
use Rattle.meaning.specs.Control.{Control}
use Rattle.meaning.specs.Scheduling.{Scheduling}
use Rattle.tables.specs.declared.core_state.Core.{Core}
use Rattle.tables.specs.declared.row.Row.{Row}
use Rattle.tables.specs.declared.stream.Stream.{Stream}
use Rattle.tables.specs.Rows.{taken_up, settled_row, expired_row}
use Rattle.tables.specs.Streams as stream
use Rattle.tables.specs.Core as core
use Rattle.tables.specs.Core.{about_slot, about_macroflow, at_time, put}
use Rattle.tables.specs.Replies.{Question}
use Rattle.stream_calls.specs.declared.reporting.Feedback.{Feedback}
use Rattle.stream_calls.specs.Calls as calls
use Rattle.stream_calls.specs.Lists.{raised_in, lowered_in, told_in}
use Rattle.stream_calls.specs.Merges as moves
use Rattle.stream_calls.specs.Merges.{placed, moved_below, replied}
use Rattle.grant_calls.specs.Grants as grants
use Rattle.grant_calls.specs.Grants.{row}
use Rattle.manager.specs.declared.call.Call.TheVariants.{Open, Request, TakeUp, Settle, Expire, Report, Move, Merge, Close}
use Rattle.manager.specs.declared.call.Told.{Told}
use Rattle.manager.specs.declared.call.Told.TheVariants as told
use Rattle.manager.specs.State.{State, state}
use Rattle.manager.specs.Steps.{Stepped, stepped, of_open, of_schedulers, of_rows, of_report, done, taken_up as told_taken, expired as told_expired, step}
use Rattle.law.proofs.Ways.{Refuses, Passes, answered_cases}

module _ {C S : Type 0} (k : Control C) (d : Scheduling S) (s : State C S) (P : Stepped C S → Type 0) where
  abbrev m : Core
  m = s.core

  abbrev at_slot : ℕ → Stream
  at_slot i = core.stream s.core i

  -- the call is refused for one of the questions, and leaves all as it was
  abbrev pub Nay : List Question → (Reason → Refusal) → Type 0
  Nay qs e = (n : Reason) → Refuses qs n → P (stepped (Err (e n)) s)

  -- where all of them are answered 'yes', it tells a, and leaves the rest
  abbrev pub Yea : List Question → Told → Core → List C → List S → List Row → Type 0
  Yea qs a n cs ss rs = Passes qs → P (stepped (Ok a) (state n cs ss rs))

  pub open_cases : (t i f w l : ℕ) → let qs = calls.open_questions m t i f w l in
      Nay qs (about_macroflow m (Some i) f) → Yea qs told.Done (put m t i (stream.opened (at_slot i) f w l t)) s.controllers s.schedulers s.rows → P (step k d s (Open t i f w l))
  open_cases t i f w l = answered_cases (λ r. P (of_open s r)) _ _ (calls.open_questions m t i f w l) _ _ _

  pub request_cases : (t i : ℕ) → let qs = calls.request_questions m (length s.schedulers) t i in let x = at_slot i in
      Nay qs (about_slot m i) → Yea qs told.Done (put m t i (stream.requested x t)) s.controllers (cond (eqb x.waiting 0) (raised_in d s.schedulers x.macroflow i x.weight) s.schedulers) s.rows
      → P (step k d s (Request t i))
  request_cases t i = answered_cases (λ r. P (of_schedulers s r)) _ _ (calls.request_questions m (length s.schedulers) t i) _ _ _

  pub close_cases : (t i : ℕ) → let qs = calls.close_questions m (length s.schedulers) t i in let x = at_slot i in
      Nay qs (about_slot m i) → Yea qs told.Done (put m t i (stream.closed x)) s.controllers (lowered_in d s.schedulers x.macroflow i) s.rows → P (step k d s (Close t i))
  close_cases t i = answered_cases (λ r. P (of_schedulers s r)) _ _ (calls.close_questions m (length s.schedulers) t i) _ _ _

  pub report_cases : (t i : ℕ) (b : Feedback) → let qs = calls.report_questions m (length s.controllers) t i b in let x = at_slot i in
      Nay qs (about_slot m i)
      → Yea qs told.Done (put m t i (stream.reported x b.received b.lost t)) (told_in k s.controllers x.macroflow (calls.heard m x.macroflow t b)) s.schedulers s.rows
      → P (step k d s (Report t i b))
  report_cases t i b = answered_cases (λ r. P (of_report s r)) _ _ (calls.report_questions m (length s.controllers) t i b) _ _ _

  pub move_cases : (t i f : ℕ) → let qs = calls.move_questions m (length s.schedulers) t i f in
      Nay qs (about_macroflow m (Some i) f) → Yea qs told.Done (put m t i (stream.moved (at_slot i) f)) s.controllers (calls.passed_on d s.schedulers i f (at_slot i)) s.rows
      → P (step k d s (Move t i f))
  move_cases t i f = answered_cases (λ r. P (of_schedulers s r)) _ _ (calls.move_questions m (length s.schedulers) t i f) _ _ _

  pub merge_cases : (t a b : ℕ) → let qs = moves.merge_questions m (length s.schedulers) t a b in let p = moved_below d a b 32 (placed m s.schedulers) in
      Nay qs (about_macroflow m None a) → Yea qs told.Done (at_time p.core t) s.controllers p.schedulers s.rows → P (step k d s (Merge t a b))
  merge_cases t a b = answered_cases (λ r. P (of_schedulers s r)) _ _ (moves.merge_questions m (length s.schedulers) t a b) _ _ _

  -- a call about the row x of the grant g: first whether it is there, then the questions about it
  pub take_up_cases : (t g : ℕ) → let qs = grants.found_questions m s.rows t g in let x = row s.rows g in
      Nay qs about_nothing → (Passes qs → Nay (grants.take_up_questions m x) (about_slot m x.slot))
      → (Passes qs → Yea (grants.take_up_questions m x) (told.TakenUp g) (at_time m t) s.controllers s.schedulers (set s.rows g (taken_up x))) → P (step k d s (TakeUp t g))
  take_up_cases t g lost nay yea =
      answered_cases (λ r. P (of_rows s told_taken r)) _ _ (grants.found_questions m s.rows t g) _ _ _ lost
      (λ p. answered_cases (λ r. P (of_rows s told_taken r)) _ _ (grants.take_up_questions m (row s.rows g)) _ _ _ (nay p) (yea p))

  pub settle_cases : (t g n : ℕ) → let qs = grants.found_questions m s.rows t g in let x = row s.rows g in
      Nay qs about_nothing → (Passes qs → Nay (grants.settle_questions m x n) (about_slot m x.slot))
      → (Passes qs → Yea (grants.settle_questions m x n) told.Done (put m t x.slot (stream.settled (at_slot x.slot) x.granted n t)) s.controllers s.schedulers (set s.rows g (settled_row x n t)))
      → P (step k d s (Settle t g n))
  settle_cases t g n lost nay yea =
      answered_cases (λ r. P (of_rows s done r)) _ _ (grants.found_questions m s.rows t g) _ _ _ lost
      (λ p. answered_cases (λ r. P (of_rows s done r)) _ _ (grants.settle_questions m (row s.rows g) n) _ _ _ (nay p) (yea p))

  -- the row that is due, if one is
  due_cases : (t : ℕ) (o : Option ℕ) → grants.due m s.rows t ≡ o → P (stepped (Ok (told.Expired None)) (state (at_time m t) s.controllers s.schedulers s.rows))
      → ((g : ℕ) → grants.due m s.rows t ≡ Some g → let x = row s.rows g in Nay (grants.end_questions m x) (about_slot m x.slot))
      → ((g : ℕ) → grants.due m s.rows t ≡ Some g → let x = row s.rows g in
      Yea (grants.end_questions m x) (told.Expired (Some g)) (put m t x.slot (stream.expired (at_slot x.slot) x.granted)) s.controllers s.schedulers (set s.rows g (expired_row x t)))
      → P (of_rows s told_expired (grants.expired_at m s.rows t o))
  due_cases t None e none nay yea = none
  due_cases t (Some g) e none nay yea = answered_cases (λ r. P (of_rows s told_expired r)) _ _ (grants.end_questions m (row s.rows g)) _ _ _ (nay g e) (yea g e)

  pub expire_cases : (t : ℕ) → Nay (grants.expire_questions m (length s.rows) t) about_nothing → P (stepped (Ok (told.Expired None)) (state (at_time m t) s.controllers s.schedulers s.rows))
      → ((g : ℕ) → grants.due m s.rows t ≡ Some g → let x = row s.rows g in Nay (grants.end_questions m x) (about_slot m x.slot))
      → ((g : ℕ) → grants.due m s.rows t ≡ Some g → let x = row s.rows g in
      Yea (grants.end_questions m x) (told.Expired (Some g)) (put m t x.slot (stream.expired (at_slot x.slot) x.granted)) s.controllers s.schedulers (set s.rows g (expired_row x t)))
      → P (step k d s (Expire t))
  expire_cases t lost none nay yea =
      answered_cases (λ r. P (of_rows s told_expired r)) _ _ (grants.expire_questions m (length s.rows) t) _ _ _ lost (λ _. due_cases t (grants.due m s.rows t) refl none nay yea)
