use Rattle.std.proofs.Common.{◌≡◌}
use Rattle.stream_calls.specs.Merges.{placed, moved_below}
use Rattle.stream_calls.proofs.merging.move_all.Given as goal

abbrev pub invariant-loop-slot : goal.invariant-loop-slot
invariant-loop-slot g l =
    placed l.core l.schedulers ≡ moved_below g.S.Scheduler.scheduling l.from l.into l.slot (placed l.initial.core l.initial.schedulers)
