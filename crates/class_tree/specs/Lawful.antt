-- The class tree keeps the laws of a scheduler of 32 slots.
use Rattle.std.specs.Prelude.{ℕ, ◌/◌, ◌%◌, refl}
use Rattle.meaning.specs.Scheduling.{SchedulingLaws}
use Rattle.schedulers.specs.declared.round_robin.RoundRobin.{RoundRobin}
use Rattle.schedulers.specs.Lawful.{round_robin_laws}
use Rattle.class_tree.specs.declared.class_tree.ClassTree.{ClassTree}
use Rattle.class_tree.specs.Rule.{slots_of}
use Rattle.class_tree.specs.RoundRobins.{round_robins, tree_of}
use Rattle.class_tree.specs.Scheduling.{class_tree}
use Rattle.class_tree.specs.Same.{same_tree}
use Rattle.class_tree.specs.TwoLevels as two

-- the slots of the class of slot i
abbrev slots : ClassTree → ℕ → RoundRobin 8
slots t i = slots_of round_robins (tree_of t.state) (i / 8)

pub class_tree_laws : SchedulingLaws 32 class_tree
class_tree_laws = record {
  waits_below = λ t. two.waits_below round_robins (tree_of t.state) t.sound;
  weight_least = λ t i. (round_robin_laws 8).weight_least (slots t i) (i % 8);
  weight_most = λ t i. (round_robin_laws 8).weight_most (slots t i) (i % 8);
  raise_adds = λ t. two.raise_adds round_robins (tree_of t.state) t.sound;
  raise_weight = λ t. two.raise_weight round_robins (tree_of t.state) t.sound;
  raise_others = λ t. two.raise_others round_robins (tree_of t.state) t.sound;
  raise_other_weights = λ t. two.raise_other_weights round_robins (tree_of t.state) t.sound;
  raise_waiting = λ t i w b. same_tree _ t (two.raise_still round_robins (tree_of t.state) t.sound i w ((round_robin_laws 8).raise_waiting (slots t i) (i % 8) w b));
  raise_outside = λ t i w l. same_tree _ t (two.raise_outside round_robins (tree_of t.state) t.sound i w l);
  raise_weightless = λ t i. same_tree _ t (two.raise_still round_robins (tree_of t.state) t.sound i 0 ((round_robin_laws 8).raise_weightless (slots t i) (i % 8)));
  raise_heavy = λ t i w l. same_tree _ t (two.raise_still round_robins (tree_of t.state) t.sound i w ((round_robin_laws 8).raise_heavy (slots t i) (i % 8) w l));
  lower_removes = λ t. two.lower_removes round_robins (tree_of t.state) t.sound;
  lower_others = λ t. two.lower_others round_robins (tree_of t.state) t.sound;
  lower_other_weights = λ t. two.lower_other_weights round_robins (tree_of t.state) t.sound;
  lower_idle = λ t i b. same_tree _ t (two.lower_idle round_robins (tree_of t.state) t.sound i b);
  pick_absent = λ t. two.pick_absent round_robins (tree_of t.state) t.sound;
  pick_idle = λ t. two.pick_idle round_robins (tree_of t.state) t.sound;
  pick_still = λ t e. same_tree _ t (two.pick_still round_robins (tree_of t.state) t.sound e);
  pick_waits = λ t. two.pick_waits round_robins (tree_of t.state) t.sound;
  pick_keeps = λ t. two.pick_keeps round_robins (tree_of t.state) t.sound;
  pick_weights = λ t. two.pick_weights round_robins (tree_of t.state) t.sound;
  pick_patience = λ t. two.pick_patience round_robins (tree_of t.state) t.sound;
  raise_patience = λ t. two.raise_patience round_robins (tree_of t.state) t.sound;
  lower_patience = λ t. two.lower_patience round_robins (tree_of t.state) t.sound;
  bounded = λ t. two.bounded round_robins (tree_of t.state) t.sound;
  raise_bound = λ t i w. refl;
  lower_bound = λ t i. refl;
  pick_bound = λ t. refl;
}
