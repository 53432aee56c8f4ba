use Rattle.std.proofs.Common.{◌≡◌, drop}
use Rattle.meaning.specs.Control.{told_all}
use Rattle.meaning.proofs.controller.tell_all.Given as goal

-- the reports that are left lead to the same end
abbrev pub invariant-loop-report : goal.invariant-loop-report
invariant-loop-report g l =
    let k = g.C.Controller.control in
    told_all k l.controller (drop l.report-index l.reports) ≡ told_all k l.initial.controller l.reports
