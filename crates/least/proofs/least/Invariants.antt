use Rattle.least.specs.Order.{Least}
use Rattle.least.proofs.least.Given as goal

abbrev pub invariant-loop-i : goal.invariant-loop-i
invariant-loop-i g l = let m = g.R.Ranking in Least (m.takes l.by) (m.upto l.by) l.records l.i l.best
