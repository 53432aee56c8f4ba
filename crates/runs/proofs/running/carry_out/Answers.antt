use Rattle.std.proofs.Common.{[], ◌∷◌, ◌++◌, vec_items, refl, ap, ◌∙◌, arith}
use Rattle.folds.proofs.Folding.{leads_more, leads_end}
use Rattle.manager.specs.State.{state}
use Rattle.manager.specs.Steps.{goes, says}
use Rattle.runs.proofs.running.carry_out.Goals as goal

pub loop-call-preserved : goal.loop-call-preserved
loop-call-preserved g c =
    let k = g.C.Controller.control in
    let d = g.S.Scheduler.scheduling in
    let l = c.loop-call in
    let plain = c.carry_out.ensures.plain in
    let pushed = c.push_reserved.ensures in (
      omega (arith, pushed.len),
      omega (arith, pushed.capacity),
      leads_more (goes k d) (says k d) _ c.args.calls.now (state l.manager.core l.controllers l.schedulers l.rows) (vec_items l.given) l.call-index _ _ c.loop-call-test.true refl l.invariant.2 _ _
          (ap (λ x. x.state) plain)
          (pushed.items ∙ ap (λ x. vec_items l.given ++ (x.answer ∷ [])) plain),
    )

pub returns : goal.returns
returns g c =
    let k = g.C.Controller.control in
    let d = g.S.Scheduler.scheduling in
    let l = c.loop-call in
    let end = leads_end (goes k d) (says k d) (state c.args.manager.now.core c.args.controllers.now c.args.schedulers.now c.args.rows.now) c.args.calls.now (state l.manager.core l.controllers l.schedulers l.rows) (vec_items l.given) l.call-index c.loop-call-test.false l.invariant.2 in
    record { answers = end.0; state = end.1 }
