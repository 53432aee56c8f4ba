-- A list of events, carried out by a scheduler.
--   stepped      the state after one event
--   answer_to    the answer to it, if it is a pick
--   state_after  the state after the events
--   answers      the answers of the picks among them, in their order
--   Ended        how a run ends: with these answers and this state, or for want of memory in the state that it began with
use Rattle.std.specs.Prelude.{◌≡◌, ℕ, List, [], ◌∷◌, Ok, Err, vec_items, Option, Result}
use Rattle.std.specs.declared.alloc.AllocError.{AllocError}
use Rattle.std.specs.Global.{Vec}
use Rattle.folds.specs.Folds.{all_done, all_said}
use Rattle.meaning.specs.Scheduling.{Scheduling}
use Rattle.fairness.specs.declared.event.Event.{Event}
use Rattle.fairness.specs.declared.event.Event.TheVariants.{Raise, Lower, Pick}

module _ {S : Type 0} (k : Scheduling S) where
  abbrev pub stepped : S → Event → S
  stepped s (Raise slot weight) = k.raised s slot weight
  stepped s (Lower slot) = k.lowered s slot
  stepped s Pick = k.turned s

  abbrev pub answer_to : S → Event → List (Option ℕ)
  answer_to s (Raise slot weight) = []
  answer_to s (Lower slot) = []
  answer_to s Pick = k.chosen s ∷ []

  abbrev pub state_after : S → List Event → S
  state_after s events = all_done stepped s events

  abbrev pub answers : S → List Event → List (Option ℕ)
  answers s events = all_said stepped answer_to s events

  abbrev pub Ended : S → List Event → Result (Vec (Option ℕ)) AllocError → S → Type 0
  Ended s events (Ok v) end = (vec_items v ≡ answers s events) × (end ≡ state_after s events)
  Ended s events (Err _) end = end ≡ s
