use Rattle.std.proofs.Common.{sym, subst}
use Rattle.fairness.specs.Fair.{Fair}
use Rattle.fairness.proofs.Fairness.{fair}
use Rattle.fairness.proofs.run.carry_out.Goals as goal

pub returns-clause-fair : goal.returns-clause-fair
returns-clause-fair g c =
    let k = g.S.Scheduler.scheduling in
    subst (λ xs. Fair k c.args.scheduler.now c.args.events.now xs) (sym c.apply.ensures.answers) (fair k g.met.S.Scheduler.lawful c.args.scheduler.now c.args.events.now)
