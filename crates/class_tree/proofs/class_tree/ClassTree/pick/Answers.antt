use Rattle.std.proofs.Common.{◌≡◌, set, sym, subst}
use Rattle.class_tree.specs.Scheduling.{class_tree}
use Rattle.class_tree.specs.Same.{SoundState, same}
use Rattle.class_tree.proofs.Steps.{parts, picked_after}
use Rattle.class_tree.proofs.class_tree.ClassTree.pick.Goals as goal
use Rattle.class_tree.proofs.class_tree.ClassTree.pick.Goals.{After-pick-2}

-- the state after a pick that a class answers
picked : (c : After-pick-2)
    → parts c.pick.new.self (set c.args.self.now.state.slots c.in_ok-class.class c.pick-2.new.self) ≡ (class_tree.turned c.args.self.now).state
picked c =
    let t = c.args.self.now in
    picked_after t.state t.sound.0 c.in_ok-class.class (sym c.in_ok-class.ensures.answer) _ c.pick-2.new.self c.pick.new.self c.pick.ensures.after c.pick-2.ensures.after

pub invariant_of-self-2 : goal.invariant_of-self-2
invariant_of-self-2 c = record { sound = subst SoundState (sym (picked (goal.at.invariant_of-self-2 c).After-pick-2)) (class_tree.turned c.args.self.now).sound }

pub returns-in_err-place-clause-after : goal.returns-in_err-place-clause-after
returns-in_err-place-clause-after c = same _ _ (picked (goal.at.returns-in_err-place-clause-after c).After-pick-2)

pub returns-clause-after : goal.returns-clause-after
returns-clause-after c = same _ _ (picked (goal.at.returns-clause-after c).After-pick-2)
