use Rattle.std.proofs.lemmas.Result.{IfOk-weaker}
use Rattle.house.proofs.Bounds.{bounded_from_promises}
use Rattle.house.proofs.bounded.run_bounded.Goals as goal

pub returns-clause-bounded : goal.returns-clause-bounded
returns-clause-bounded g c = IfOk-weaker c.run.result _ _ (λ o p. bounded_from_promises g.S.Bounded.most g.met.S.Bounded.bound_most p) c.run.ensures.promises
