-- When a report is heard. Assumes nothing.
--   mode_numbered n    the mode with the number n: 0 clear, 1 loss, 2 mark, 3 silence
--   decoded n          that mode, or the reason why there is none
--   is_amount n        an amount of bytes in a report is below 2^32
--   in_range r         whether every number of a report is in range
--   heard r            the mode of a report in range; absent if the report is to be ignored
--   when_heard o f s   f of the mode, or s itself where the report is ignored
--   told_by p f s r    what a report makes of s: its sample is taken by p, then its mode by f; nothing if it is ignored
use Rattle.std.specs.Prelude.{ℕ, ◌^◌, Bool, true, cond, ◌&&◌, Some, None, Option, Result, ok_or, ◌==◌, nat_le, nat_lt}
use Rattle.meaning.specs.declared.report.Mode.{Mode}
use Rattle.meaning.specs.declared.report.Mode.TheVariants.{Clear, Loss, Mark, Silence}
use Rattle.meaning.specs.declared.report.Report.{Report}
use Rattle.meaning.specs.declared.refusal.Reason.{Reason}
use Rattle.meaning.specs.declared.refusal.Reason.TheVariants as reason
use Rattle.meaning.specs.Paths.{is_sample}

abbrev pub mode_numbered : ℕ → Option Mode
mode_numbered n = cond (n == 0) (Some Clear) (cond (n == 1) (Some Loss) (cond (n == 2) (Some Mark) (cond (n == 3) (Some Silence) None)))

abbrev pub decoded : ℕ → Result Mode Reason
decoded n = ok_or (mode_numbered n) reason.ModeOrSample

abbrev pub is_amount : ℕ → Bool
is_amount n = nat_lt n (2 ^ 32)

abbrev pub sample_fits : Option ℕ → Bool
sample_fits None = true
sample_fits (Some r) = is_sample r

abbrev pub in_range : Report → Bool
in_range r = is_amount r.received && (is_amount r.lost && (is_amount r.flight && (nat_le r.mode 3 && sample_fits r.sample)))

abbrev pub heard : Report → Option Mode
heard r = cond (in_range r) (mode_numbered r.mode) None

abbrev pub when_heard : {S : Type 0} → Option Mode → (Mode → S) → S → S
when_heard None f s = s
when_heard (Some m) f s = f m

abbrev pub told_by : {S : Type 0} → (S → Report → S) → (S → Report → Mode → S) → S → Report → S
told_by sampled step s r = when_heard (heard r) (step (sampled s r) r) s
