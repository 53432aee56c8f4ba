-- The schedulers and controllers of a list, each told by its macroflow. Assumes nothing.
--   raised_in k ss f i w    the scheduler of the macroflow f with the slot i raised
--   lowered_in k ss f i     the same with the slot lowered
--   told_in k cs f r        the controller of the macroflow f with the report r told
use Rattle.std.specs.Prelude.{ℕ, List, slice_index_or, slice_set}
use Rattle.meaning.specs.declared.report.Report.{Report}
use Rattle.meaning.specs.Control.{Control}
use Rattle.meaning.specs.Scheduling.{Scheduling}

abbrev pub raised_in : {S : Type 0} → Scheduling S → List S → ℕ → ℕ → ℕ → List S
raised_in k ss f i w = slice_set ss f (k.raised (slice_index_or ss f k.spare) i w)

abbrev pub lowered_in : {S : Type 0} → Scheduling S → List S → ℕ → ℕ → List S
lowered_in k ss f i = slice_set ss f (k.lowered (slice_index_or ss f k.spare) i)

abbrev pub told_in : {C : Type 0} → Control C → List C → ℕ → Report → List C
told_in k cs f r = slice_set cs f (k.told (slice_index_or cs f k.spare) r)
