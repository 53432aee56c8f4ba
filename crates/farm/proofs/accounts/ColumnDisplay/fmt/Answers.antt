use Rattle.std.proofs.Common.{refl}
use Rattle.std.proofs.Output.{has_written_styled_append}
use Rattle.farm.proofs.accounts.ColumnDisplay.fmt.Goals as goal

pub returns-in_ok-pad-in-Some-clause-styled : goal.returns-in_ok-pad-in-Some-clause-styled
returns-in_ok-pad-in-Some-clause-styled g c = λ flush ok.
    let text = c.in_ok-pad-in-Some.ensures.styled flush refl in
    rw c.in-Some.is (has_written_styled_append _ _ _ _ _ _ text (c.write_str.ensures.styled text.flush ok))
