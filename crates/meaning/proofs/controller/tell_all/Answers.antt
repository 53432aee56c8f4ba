use Rattle.std.proofs.Common.{◌≡◌, sym, ap, ◌∙◌}
use Rattle.std.proofs.lemmas.List.{at_drop_all}
use Rattle.meaning.specs.Control.{told_all}
use Rattle.meaning.proofs.Telling.{packet_after, path_all, told_more}
use Rattle.meaning.proofs.controller.tell_all.Goals as goal

pub loop-report-preserved : goal.loop-report-preserved
loop-report-preserved g c = told_more g.C.Controller.control _ _ _ c.args.reports.now _ _ c.loop-report-test.true c.report.ensures c.loop-report.invariant

pub returns : goal.returns
returns g c =
    let k = g.C.Controller.control in
    let laws = g.met.C.Controller.lawful in
    let last = c.loop-report.controller in
    let first = c.args.controller.now in
    let told = c.args.reports.now in
    let after : last ≡ told_all k first told =
    sym (at_drop_all (told_all k last) told c.loop-report.report-index c.loop-report-test.false) ∙ c.loop-report.invariant in
    record {
      after = after;
      packet = ap k.packet after ∙ packet_after laws first told;
      allowance = (laws.allowance_least last, laws.allowance_most last);
      path = ap k.path after ∙ path_all laws first told;
    }
