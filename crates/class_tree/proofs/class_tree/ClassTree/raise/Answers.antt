use Rattle.std.proofs.Common.{sym, ◌∙◌, subst}
use Rattle.std.proofs.lemmas.Bool.{cond-false}
use Rattle.class_tree.specs.Rule.{any_waits}
use Rattle.class_tree.specs.RoundRobins.{round_robins}
use Rattle.class_tree.specs.Scheduling.{class_tree}
use Rattle.class_tree.specs.Same.{SoundState}
use Rattle.class_tree.proofs.Steps.{raised_is}
use Rattle.class_tree.proofs.class_tree.ClassTree.raise.Goals as goal

pub invariant_of-self-else-is_any_waiting : goal.invariant_of-self-else-is_any_waiting
invariant_of-self-else-is_any_waiting c =
    let t = c.args.self.now in
    let m = c.raise.new.self in
    record {
      sound = subst SoundState
          (sym (raised_is t.state t.sound.0 c.args.slot c.if-slot.true _ m _ c.args.weight c.raise.ensures
          (sym (cond-false (any_waits round_robins m) _ _ (sym c.is_any_waiting.ensures ∙ c.if-is_any_waiting.false)))))
          (class_tree.raised t c.args.slot c.args.weight).sound;
    }
