use Rattle.std.proofs.Common.{length, Ok, vec_items, sym, ap, ◌∙◌, arith, rules}
use Rattle.std.proofs.lemmas.List.{take_all}
use Rattle.manager.specs.Steps.{after}
use Rattle.law.specs.Runs.{lent, start}
use Rattle.law.proofs.Laws.{lawful}
use Rattle.runs.specs.Ended.{Ended}
use Rattle.runs.proofs.running.run.Goals as goal

pub returns : goal.returns
returns g c =
    let k = g.C.Controller.control in
    let d = g.S.Scheduler.scheduling in
    let f = c.args.macroflows in
    let calls = c.args.calls.now in
    let end = c.carry_out.new in
    let before = lent c.args.controllers.now c.args.schedulers.now c.args.rows.now in
    let plain : Ended k d f before calls (Ok (record { manager = end.manager; answers = end.given })) (lent end.controllers end.schedulers end.rows) = search rules in
    record {
      plain = plain;
      held = ap (λ xs. after k d (start f before) xs) (take_all (length calls) calls (omega arith)) ∙ sym plain.2;
      promises = lawful k d g.met.C.Controller.lawful g.met.S.Scheduler.lawful f before plain.0 calls (vec_items end.given) plain.1;
    }
