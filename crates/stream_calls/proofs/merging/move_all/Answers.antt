use Rattle.std.proofs.Common.{sym, ap, ◌∙◌}
use Rattle.stream_calls.specs.Merges.{moved_from}
use Rattle.stream_calls.proofs.OneMore.{moved_none, moved_more}
use Rattle.stream_calls.proofs.merging.move_all.Goals as goal

pub loop-slot-init : goal.loop-slot-init
loop-slot-init g c = sym (moved_none g.S.Scheduler.scheduling c.args.from c.args.into _)

pub loop-slot-preserved : goal.loop-slot-preserved
loop-slot-preserved g c =
    let k = g.S.Scheduler.scheduling in
    c.move_from.ensures
    ∙ ap (moved_from k c.args.from c.args.into c.loop-slot.slot) c.loop-slot.invariant
    ∙ sym (moved_more k c.args.from c.args.into c.loop-slot.slot _)
