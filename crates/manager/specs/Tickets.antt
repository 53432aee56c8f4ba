-- Tickets as grant numbers. Assumes nothing.
--   numbered r      the answer to a take-up, with the grant's number in the place of the ticket
use Rattle.std.specs.Prelude.{ℕ, Ok, Err, Result}
use Rattle.meaning.specs.declared.refusal.Refusal.{Refusal}
use Rattle.manager.specs.declared.ticket.Ticket.{Ticket}

abbrev pub numbered : Result Ticket Refusal → Result ℕ Refusal
numbered (Ok t) = Ok t.grant
numbered (Err e) = Err e
