-- What a call did, told from the call, its answer and the ledger's rows after it. Assumes nothing.
--   Booking           what was written about the bytes of a slot
--   SlotEvent        what can happen to a slot
--   Effect            what a call did
--   slot_of rows g    the slot of the grant g, as its row has it
--   bytes_of rows g   the bytes granted, as its row has them
--   effect rows c a   what the call c did that was answered a
use Rattle.std.specs.Prelude.{ℕ, List, map, Some, None, slice_index, Ok, Err}
use Rattle.tables.specs.declared.row.Row.{Row}
use Rattle.stream_calls.specs.declared.reporting.Feedback.{Feedback}
use Rattle.grant_calls.specs.declared.polling.Polled.TheVariants as poll
use Rattle.manager.specs.declared.call.Call.{Call}
use Rattle.manager.specs.declared.call.Call.TheVariants.{Open, Request, Poll, TakeUp, Settle, Expire, Report, Move, Merge, Close}
use Rattle.manager.specs.Answers.{Answer}
use Rattle.manager.specs.declared.call.Told.TheVariants as told

pub data Booking : Type 0 where
  -- a grant was issued in a macroflow, settled with the bytes that were sent, or expired
  Granted : (macroflow grant bytes : ℕ) → Booking
  Settled : (grant bytes sent : ℕ) → Booking
  Expired : (grant bytes : ℕ) → Booking
  -- a report was accepted
  Reported : Feedback → Booking

pub data SlotEvent : Type 0 where
  Opened : (macroflow weight : ℕ) → SlotEvent
  Moved : (macroflow : ℕ) → SlotEvent
  Closed : SlotEvent
  Requested : SlotEvent
  Booked : Booking → SlotEvent

pub data Effect : Type 0 where
  -- a refused call
  Nothing : Effect
  -- an accepted call that did nothing to a slot
  Passed : (time : ℕ) → Effect
  -- one that did something to one slot
  AtSlot : (time slot : ℕ) → SlotEvent → Effect
  -- one that moved every open slot of a macroflow
  Merged : (time from into : ℕ) → Effect

abbrev pub slot_of : List Row → ℕ → ℕ
slot_of rows g = slice_index (map (λ r. r.slot) rows) g

abbrev pub bytes_of : List Row → ℕ → ℕ
bytes_of rows g = slice_index (map (λ r. r.granted) rows) g

abbrev pub unless_refused : Answer → Effect → Effect
unless_refused (Ok t) e = e
unless_refused (Err r) e = Nothing

-- a poll of the macroflow f at the time t
abbrev pub poll_effect : List Row → ℕ → ℕ → Answer → Effect
poll_effect rows t f (Ok (told.Polled (poll.Granted g))) = AtSlot t (slot_of rows g) (Booked (Granted f g (bytes_of rows g)))
poll_effect rows t f (Ok (told.Polled poll.NoFit)) = Passed t
poll_effect rows t f (Ok (told.Polled poll.NoneWaits)) = Passed t
poll_effect rows t f (Ok told.Done) = Passed t
poll_effect rows t f (Ok (told.TakenUp g)) = Passed t
poll_effect rows t f (Ok (told.Expired o)) = Passed t
poll_effect rows t f (Err r) = Nothing

-- an expiry at the time t
abbrev pub expire_effect : List Row → ℕ → Answer → Effect
expire_effect rows t (Ok (told.Expired (Some g))) = AtSlot t (slot_of rows g) (Booked (Expired g (bytes_of rows g)))
expire_effect rows t (Ok (told.Expired None)) = Passed t
expire_effect rows t (Ok told.Done) = Passed t
expire_effect rows t (Ok (told.Polled p)) = Passed t
expire_effect rows t (Ok (told.TakenUp g)) = Passed t
expire_effect rows t (Err r) = Nothing

abbrev pub effect : List Row → Call → Answer → Effect
effect rows (Open t i f w l) a = unless_refused a (AtSlot t i (Opened f w))
effect rows (Request t i) a = unless_refused a (AtSlot t i Requested)
effect rows (Poll t f) a = poll_effect rows t f a
effect rows (TakeUp t g) a = unless_refused a (Passed t)
effect rows (Settle t g n) a = unless_refused a (AtSlot t (slot_of rows g) (Booked (Settled g (bytes_of rows g) n)))
effect rows (Expire t) a = expire_effect rows t a
effect rows (Report t i b) a = unless_refused a (AtSlot t i (Booked (Reported b)))
effect rows (Move t i f) a = unless_refused a (AtSlot t i (Moved f))
effect rows (Merge t from into) a = unless_refused a (Merged t from into)
effect rows (Close t i) a = unless_refused a (AtSlot t i Closed)
