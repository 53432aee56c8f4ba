use Rattle.std.proofs.Common.{refl, ap, ◌∙◌}
use Rattle.meaning.specs.Scheduling.{picks}
use Rattle.meaning.specs.Below.{any_below}
use Rattle.class_tree.specs.declared.class_tree.ClassTree.{ClassTree}
use Rattle.class_tree.specs.Scheduling.{class_tree}
use Rattle.class_tree.proofs.worked.eight_to_four.Goals as goal

pub returns : goal.returns
unfolding any_below
returns c = record {
  rule = refl;
  bound = λ _. refl;
  carried_out =
      c.next_picks.ensures.answers
      ∙ ap (λ (s : ClassTree). picks class_tree 12 s)
      (c.raise-2.ensures ∙ ap (λ (s : ClassTree). class_tree.raised s 8 1) (c.raise.ensures ∙ ap (λ (s : ClassTree). class_tree.raised s 0 1) c.new-scheduler.ensures));
}
