use Rattle.std.proofs.Common.{◌≡◌, ◌≤◌, length, drop, vec_items, vec_len, vec_capacity}
use Rattle.folds.proofs.Folding.{Leads}
use Rattle.manager.specs.State.{state}
use Rattle.manager.specs.Steps.{goes, says}
use Rattle.runs.proofs.running.carry_out.Given as goal

-- there is room for the answers that are still to come, and the run goes on from here
abbrev pub invariant-loop-call : goal.invariant-loop-call
invariant-loop-call g l =
    let k = g.C.Controller.control in
    let d = g.S.Scheduler.scheduling in
    (vec_len l.given ≡ l.call-index)
    × (length l.calls ≤ vec_capacity l.given)
    × Leads (goes k d) (says k d) (state l.initial.manager.core l.initial.controllers l.initial.schedulers l.initial.rows) l.calls (state l.manager.core l.controllers l.schedulers l.rows) (vec_items l.given) (drop l.call-index l.calls)
