-- The rows of the ledger. Assumes nothing.
--   blank_row           a row that describes no grant yet
--   fate_number f       0 open, 1 charged, 2 returned, 3 expired
--   is_open f           whether a fate is that of a grant that has not ended
--   is_due t r          an open row whose deadline is not after t
--   due_upto r s        the order of expiry: the earlier deadline, then the lower slot
--   open_row i f p t e  a grant of p bytes to the slot i in the macroflow f, issued at t, with the deadline e
--   taken_up r          with its ticket given out
--   settled_row r n t   settled at t with n bytes sent: charged, or returned where n is 0
--   expired_row r t     expired at t
use Rattle.std.specs.Prelude.{ℕ, Bool, true, false, cond, ◌&&◌, ◌||◌, ◌==◌, nat_le, nat_lt}
use Rattle.tables.specs.declared.row.Row.{Row}
use Rattle.tables.specs.declared.row.Fate.{Fate}
use Rattle.tables.specs.declared.row.Fate.TheVariants.{Open, Charged, Returned, Expired}

abbrev pub blank_row : Row
blank_row = record { slot = 0; macroflow = 0; granted = 0; issued = 0; deadline = 0; fate = Open; sent = 0; ended = 0; taken = false }

abbrev pub fate_number : Fate → ℕ
fate_number Open = 0
fate_number Charged = 1
fate_number Returned = 2
fate_number Expired = 3

abbrev pub is_open : Fate → Bool
is_open Open = true
is_open Charged = false
is_open Returned = false
is_open Expired = false

abbrev pub is_due : ℕ → Row → Bool
is_due t r = is_open r.fate && nat_le r.deadline t

abbrev pub due_upto : Row → Row → Bool
due_upto r s = nat_lt r.deadline s.deadline || (r.deadline == s.deadline && nat_le r.slot s.slot)

abbrev pub open_row : ℕ → ℕ → ℕ → ℕ → ℕ → Row
open_row i f p t e = record { slot = i; macroflow = f; granted = p; issued = t; deadline = e; fate = Open; sent = 0; ended = 0; taken = false }

abbrev pub taken_up : Row → Row
taken_up r = record {
  slot = r.slot;
  macroflow = r.macroflow;
  granted = r.granted;
  issued = r.issued;
  deadline = r.deadline;
  fate = r.fate;
  sent = r.sent;
  ended = r.ended;
  taken = true;
}

abbrev pub settled_row : Row → ℕ → ℕ → Row
settled_row r n t = record {
  slot = r.slot;
  macroflow = r.macroflow;
  granted = r.granted;
  issued = r.issued;
  deadline = r.deadline;
  fate = cond (n == 0) Returned Charged;
  sent = n;
  ended = t;
  taken = r.taken;
}

abbrev pub expired_row : Row → ℕ → Row
expired_row r t = record {
  slot = r.slot;
  macroflow = r.macroflow;
  granted = r.granted;
  issued = r.issued;
  deadline = r.deadline;
  fate = Expired;
  sent = r.sent;
  ended = t;
  taken = r.taken;
}
