use Rattle.std.proofs.Common.{sym, ◌∙◌, subst}
use Rattle.std.proofs.lemmas.Bool.{cond-true}
use Rattle.class_tree.specs.Rule.{any_waits}
use Rattle.class_tree.specs.RoundRobins.{round_robins}
use Rattle.class_tree.specs.Scheduling.{class_tree}
use Rattle.class_tree.specs.Same.{SoundState}
use Rattle.class_tree.proofs.Steps.{lowered_is}
use Rattle.class_tree.proofs.class_tree.ClassTree.lower.Goals as goal

pub invariant_of-self-else-not-is_any_waiting : goal.invariant_of-self-else-not-is_any_waiting
invariant_of-self-else-not-is_any_waiting c =
    let t = c.args.self.now in
    let m = c.lower.new.self in
    record {
      sound = subst SoundState
          (sym (lowered_is t.state t.sound.0 c.args.slot c.if-slot.true _ m _ c.lower.ensures
          (sym (cond-true (any_waits round_robins m) _ _ (sym c.is_any_waiting.ensures ∙ c.if-not-is_any_waiting.false)))))
          (class_tree.lowered t c.args.slot).sound;
    }
