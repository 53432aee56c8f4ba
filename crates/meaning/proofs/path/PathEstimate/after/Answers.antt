use Rattle.std.proofs.Common.{sym}
use Rattle.meaning.proofs.Estimates.{first_is, next_is}
use Rattle.meaning.proofs.path.PathEstimate.after.Goals as goal

pub returns-in-None : goal.returns-in-None
returns-in-None c =
    let e = c.first.ensures in
    first_is _ _ _ _ c.in-Some.is (sym c.if-is_sample.ensures) c.in-None.is e.smoothed e.variation

pub returns-in-Some-path : goal.returns-in-Some-path
returns-in-Some-path c =
    let e = c.next.ensures in
    next_is _ _ _ _ c.in-Some.is (sym c.if-is_sample.ensures) c.in-Some-path.old c.in-Some-path.is e.smoothed e.variation
