-- What happens on the farm, as calls of the manager. Assumes nothing.
--   reported          a report of a stream: its mode by number, what came through, what was lost, and a sample
--   call_at s event   the call at s seconds since midnight
use Rattle.std.specs.Prelude.{ℕ, ◌*◌, ◌-◌, ◌^◌, min, Option, None}
use Rattle.manager.specs.declared.call.Call.{Call}
use Rattle.manager.specs.declared.call.Call.TheVariants as made
use Rattle.farm.specs.declared.event.Event.{Event}
use Rattle.farm.specs.declared.event.Event.TheVariants.{Open, Request, Poll, Settle, Expire, Clear, Loss, Mark, Silence, Move, Merge, Close}

abbrev pub micros : ℕ → ℕ
micros seconds = min (seconds * 1000000) (2 ^ 64 - 1)

abbrev pub reported : ℕ → ℕ → ℕ → ℕ → ℕ → Option ℕ → Call
reported time slot mode received lost sample =
    made.Report time slot (record { received = received; lost = lost; mode = mode; sample = sample })

abbrev pub call_at : ℕ → Event → Call
call_at s (Open slot macroflow weight) = made.Open (micros s) slot macroflow weight 30000000
call_at s (Request slot) = made.Request (micros s) slot
call_at s (Poll macroflow) = made.Poll (micros s) macroflow
call_at s (Settle grant sent) = made.Settle (micros s) grant sent
call_at s Expire = made.Expire (micros s)
call_at s (Clear slot received sample) = reported (micros s) slot 0 received 0 sample
call_at s (Loss slot received lost sample) = reported (micros s) slot 1 received lost sample
call_at s (Mark slot received sample) = reported (micros s) slot 2 received 0 sample
call_at s (Silence slot lost) = reported (micros s) slot 3 0 lost None
call_at s (Move slot macroflow) = made.Move (micros s) slot macroflow
call_at s (Merge from into) = made.Merge (micros s) from into
call_at s (Close slot) = made.Close (micros s) slot
