-- How a run ends. Assumes nothing.
--   can_be_made   whether a manager can be made of what the host lends
--   Ended         with the answers and the tables of the plain manager; or refused at making, or without memory, with nothing changed
use Rattle.std.specs.Prelude.{◌≡◌, ℕ, Bool, true, false, List, length, Ok, Err, vec_items, Result}
use Rattle.meaning.specs.declared.refusal.Reason.TheVariants as reason
use Rattle.meaning.specs.Control.{Control}
use Rattle.meaning.specs.Scheduling.{Scheduling}
use Rattle.meaning.specs.Refusals.{about_nothing}
use Rattle.manager.specs.declared.call.Call.{Call}
use Rattle.manager.specs.Steps.{after, answers}
use Rattle.manager.specs.Making.{is_ready}
use Rattle.law.specs.Runs.{Lent, held_with, start}
use Rattle.runs.specs.declared.outcome.Outcome.{Outcome}
use Rattle.runs.specs.declared.outcome.RunError.{RunError}
use Rattle.runs.specs.declared.outcome.RunError.TheVariants.{Refused, NoMemory}

module _ {C S : Type 0} (k : Control C) (d : Scheduling S) (f : ℕ) (before : Lent C S) (calls : List Call) where
  abbrev pub can_be_made : Bool
  can_be_made = is_ready d f (length before.controllers) before.schedulers (length before.rows)

  abbrev pub Ended : Result Outcome RunError → Lent C S → Type 0
  Ended (Ok o) now =
      (can_be_made ≡ true)
      × (vec_items o.answers ≡ answers k d (start f before) calls)
      × (held_with o.manager.core now ≡ after k d (start f before) calls)
  Ended (Err (Refused e)) now = (can_be_made ≡ false) × (e ≡ about_nothing reason.CannotBeMade) × (now ≡ before)
  Ended (Err NoMemory) now = (can_be_made ≡ true) × (now ≡ before)
