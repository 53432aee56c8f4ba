use Rattle.std.proofs.Common.{ℕ, not, refl, rules, tests, ◌∙◌}
use Rattle.std.proofs.lemmas.Iterator.{YieldsList-from_range}
use Rattle.std.proofs.lemmas.Iterator.Search.{all_from_yields_List}
use Rattle.tables.proofs.Slots.{numbers_by_below}
use Rattle.manager.proofs.making.is_idle.Goals as goal

pub returns : goal.returns
returns g c =
    let idle = λ (i : ℕ). not (g.S.Scheduler.scheduling.waits c.args.scheduler.now i) in
    all_from_yields_List idle _ _ _ c.all.ensures.ran (YieldsList-from_range 0 32 32 refl refl) (λ x b q k. search (rules, tests))
    ∙ numbers_by_below idle 32
