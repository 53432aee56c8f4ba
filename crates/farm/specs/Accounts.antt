-- What is worked out for the lines that are printed. Assumes nothing.
--   where_several n x   x where there are several paths, n of them
--   tenths part whole   the share of a part in a whole, in tenths of a percent, rounded down
--   call_time call      when a call was made
--   asked_path n call   the path that a call asks for a grant, where there are several, n of them
use Rattle.std.specs.Prelude.{ℕ, ◌-◌, ◌*◌, ◌/◌, ◌^◌, min, ◌==◌, nat_lt, cond, Option, Some, None}
use Rattle.manager.specs.declared.call.Call.{Call}
use Rattle.manager.specs.declared.call.Call.TheVariants.{Open, Request, Poll, TakeUp, Settle, Expire, Report, Move, Merge, Close}
use Rattle.farm.specs.declared.words.PathName.{PathName}

abbrev pub where_several : {T : Type 0} → ℕ → T → Option T
where_several n x = cond (nat_lt 1 n) (Some x) None

-- a part above 2 ^ 64 / 1000 counts as that
abbrev pub tenths : ℕ → ℕ → ℕ
tenths part whole = cond (whole == 0) 0 (min (part * 1000) (2 ^ 64 - 1) / whole)

abbrev pub call_time : Call → ℕ
call_time (Open t i f w l) = t
call_time (Request t i) = t
call_time (Poll t f) = t
call_time (TakeUp t g) = t
call_time (Settle t g n) = t
call_time (Expire t) = t
call_time (Report t i b) = t
call_time (Move t i f) = t
call_time (Merge t a b) = t
call_time (Close t i) = t

abbrev pub asked_path : ℕ → Call → Option PathName
asked_path n (Poll t f) = where_several n (record { 0 = f })
asked_path n _ = None
