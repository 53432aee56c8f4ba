use Rattle.std.proofs.Common.{◌≤◌, length, drop, vec_items, vec_len, vec_capacity}
use Rattle.folds.proofs.Folding.{Leads}
use Rattle.fairness.specs.Events.{stepped, answer_to}
use Rattle.fairness.proofs.run.apply.Given as goal

-- there is room for the answers that are still to come, and the run goes on from here
abbrev pub invariant-loop-event : goal.invariant-loop-event
invariant-loop-event g l =
    let k = g.S.Scheduler.scheduling in
    (vec_len l.picked ≤ l.event-index)
    × (length l.events ≤ vec_capacity l.picked)
    × Leads (stepped k) (answer_to k) l.initial.scheduler l.events l.scheduler (vec_items l.picked) (drop l.event-index l.events)
