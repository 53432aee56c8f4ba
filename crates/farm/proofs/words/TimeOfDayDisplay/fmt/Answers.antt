use Rattle.std.proofs.Common.{append_assoc}
use Rattle.std.proofs.Output.{has_written_of_eq}
use Rattle.farm.proofs.Widths.{zeros_before}
use Rattle.farm.proofs.words.TimeOfDayDisplay.fmt.Goals as goal

pub returns-clause-writes : goal.returns-clause-writes
returns-clause-writes g c = λ plain ok.
    has_written_of_eq _ _ _ _ _ (simp (c.laid_out.ensures, c.laid_out-2.ensures, c.laid_out-3.ensures, zeros_before, append_assoc)) (c.write.ensures.writes plain ok)
