use Rattle.meaning.proofs.PicksInARow.{Picked}
use Rattle.meaning.proofs.picking.next_picks.Given as goal

abbrev pub invariant-loop-i : goal.invariant-loop-i
invariant-loop-i g l = Picked g.S.Scheduler.scheduling g.row.K l.initial.scheduler l.i l.scheduler l.answers
