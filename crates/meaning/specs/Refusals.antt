-- Refusals. Assumes nothing.
--   number r           the number of the question that was answered 'no'
--   about_nothing r    a refusal about no slot and no macroflow
use Rattle.std.specs.Prelude.{ℕ, None}
use Rattle.meaning.specs.declared.refusal.Reason.{Reason}
use Rattle.meaning.specs.declared.refusal.Reason.TheVariants as reason
use Rattle.meaning.specs.declared.refusal.Refusal.{Refusal}

abbrev pub number : Reason → ℕ
number reason.TablesDisagree = 1
number reason.NotTimely = 2
number reason.NoSuchSlot = 3
number reason.NoSuchMacroflow = 4
number reason.AlreadyOpen = 5
number reason.WeightOrLife = 6
number reason.NotOpen = 7
number reason.TooManyWaiting = 8
number reason.LedgerFull = 9
number reason.NotIssued = 10
number reason.GrantEnded = 11
number reason.AlreadyTaken = 12
number reason.SentTooMuch = 13
number reason.ModeOrSample = 14
number reason.NotOutstanding = 15
number reason.ModeUnfit = 16
number reason.SameMacroflow = 17
number reason.OpenBytes = 18
number reason.CannotBeMade = 19

abbrev pub about_nothing : Reason → Refusal
about_nothing r = record { reason = r; slot = None; macroflow = None }
