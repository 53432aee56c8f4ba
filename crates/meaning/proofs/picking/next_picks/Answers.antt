use Rattle.std.proofs.Common.{ℕ, None, Option}
use lib.ListN.{length-replicate}
use Rattle.meaning.proofs.PicksInARow.{picked_none, picked_more, picked_all}
use Rattle.meaning.proofs.picking.next_picks.Goals as goal

pub loop-i-init : goal.loop-i-init
loop-i-init g c =
    let none : Option ℕ = None in
    picked_none g.S.Scheduler.scheduling g.row.K c.args.scheduler.now _ (length-replicate g.row.K none)

pub loop-i-preserved : goal.loop-i-preserved
loop-i-preserved g c =
    picked_more g.S.Scheduler.scheduling g.row.K c.args.scheduler.now c.loop-i.i c.loop-i.scheduler _ c.loop-i.answers _ c.loop-i-test.true
    c.pick.ensures.after c.pick.ensures.answer c.loop-i.invariant

pub returns : goal.returns
returns g c =
    let all = picked_all g.S.Scheduler.scheduling g.row.K c.args.scheduler.now c.loop-i.i c.loop-i.scheduler c.loop-i.answers c.loop-i-test.false c.loop-i.invariant in
    record { answers = all.0; after = all.1 }
