-- The plain manager over one call, whichever it is, and over a list of calls. Assumes nothing.
--   Stepped C S            an answer, and the state after it
--   telling f r            the answer r of one of the calls as such an answer
--   done, polled, taken_up, expired   that of a call that tells nothing, of a poll, a take-up and an expiry
--   of-…                   the tables that a call was not lent stay
--   step k d s call        what the call answers, and the state after it
--   goes, says             that state, and that answer
--   after k d s calls      the state after the calls, each of which finds all as the last left it
--   answers k d s calls    their answers
use Rattle.std.specs.Prelude.{ℕ, List, [], ◌∷◌, Ok, Err, Option, Result}
use Rattle.meaning.specs.declared.refusal.Refusal.{Refusal}
use Rattle.meaning.specs.Control.{Control}
use Rattle.folds.specs.Folds.{all_done, all_said}
use Rattle.meaning.specs.Scheduling.{Scheduling}
use Rattle.tables.specs.declared.row.Row.{Row}
use Rattle.tables.specs.Replies.{Reply}
use Rattle.stream_calls.specs.Calls.{«open», request, report, move_to, close}
use Rattle.stream_calls.specs.Merges.{merge}
use Rattle.grant_calls.specs.declared.polling.Polled.{Polled}
use Rattle.grant_calls.specs.Polls.{poll}
use Rattle.grant_calls.specs.Grants.{take_up, settle, expire}
use Rattle.manager.specs.declared.call.Call.{Call}
use Rattle.manager.specs.declared.call.Call.TheVariants.{Open, Request, Poll, TakeUp, Settle, Expire, Report, Move, Merge, Close}
use Rattle.manager.specs.declared.call.Told.{Told}
use Rattle.manager.specs.declared.call.Told.TheVariants.{Done, Polled as PolledTo, TakenUp, Expired}
use Rattle.manager.specs.Answers.{Answer}
use Rattle.manager.specs.State.{State, state}

pub record Stepped (C S : Type 0) : Type 0 where
  pub answer : Answer
  pub state : State C S

abbrev pub stepped : {C S : Type 0} → Answer → State C S → Stepped C S
stepped a s = record { answer = a; state = s }

-- the answer of a call: what it tells where it was accepted, by f
abbrev pub telling : {A : Type 0} → (A → Told) → Result A Refusal → Answer
telling f (Ok x) = Ok (f x)
telling f (Err e) = Err e

abbrev pub done : Result (Unit {0}) Refusal → Answer
done r = telling (λ _. Done) r

abbrev pub polled : Result Polled Refusal → Answer
polled r = telling PolledTo r

abbrev pub taken_up : Result ℕ Refusal → Answer
taken_up r = telling TakenUp r

abbrev pub expired : Result (Option ℕ) Refusal → Answer
expired r = telling Expired r

module _ {C S : Type 0} (s : State C S) where
  abbrev pub of_open : Reply (Result (Unit {0}) Refusal) (Unit {0}) → Stepped C S
  of_open r = stepped (done r.answer) (state r.core s.controllers s.schedulers s.rows)

  abbrev pub of_schedulers : Reply (Result (Unit {0}) Refusal) (List S) → Stepped C S
  of_schedulers r = stepped (done r.answer) (state r.core s.controllers r.tables s.rows)

  abbrev pub of_poll : Reply (Result Polled Refusal) (List S × List Row) → Stepped C S
  of_poll r = stepped (polled r.answer) (state r.core s.controllers r.tables.0 r.tables.1)

  abbrev pub of_rows : {A : Type 0} → (A → Answer) → Reply A (List Row) → Stepped C S
  of_rows told r = stepped (told r.answer) (state r.core s.controllers s.schedulers r.tables)

  abbrev pub of_report : Reply (Result (Unit {0}) Refusal) (List C) → Stepped C S
  of_report r = stepped (done r.answer) (state r.core r.tables s.schedulers s.rows)

module _ {C S : Type 0} (k : Control C) (d : Scheduling S) where
  abbrev pub step : State C S → Call → Stepped C S
  step s (Open t i f w l) = of_open s («open» s.core t i f w l)
  step s (Request t i) = of_schedulers s (request d s.core s.schedulers t i)
  step s (Poll t f) = of_poll s (poll k d s.core s.controllers s.schedulers s.rows t f)
  step s (TakeUp t g) = of_rows s taken_up (take_up s.core s.rows t g)
  step s (Settle t g n) = of_rows s done (settle s.core s.rows t g n)
  step s (Expire t) = of_rows s expired (expire s.core s.rows t)
  step s (Report t i b) = of_report s (report k s.core s.controllers t i b)
  step s (Move t i f) = of_schedulers s (move_to d s.core s.schedulers t i f)
  step s (Merge t a b) = of_schedulers s (merge d s.core s.schedulers t a b)
  step s (Close t i) = of_schedulers s (close d s.core s.schedulers t i)

  abbrev pub goes : State C S → Call → State C S
  goes s c = (step s c).state

  abbrev pub says : State C S → Call → List Answer
  says s c = (step s c).answer ∷ []

  abbrev pub after : State C S → List Call → State C S
  after s calls = all_done goes s calls

  abbrev pub answers : State C S → List Call → List Answer
  answers s calls = all_said goes says s calls
