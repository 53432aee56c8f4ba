-- The levels of the class tree are round robins.
--   round_robins  4 classes and 8 slots in each, by round robin
--   tree_of       the state of a class tree as one over these levels
--   state_of      and back
use Rattle.std.specs.Prelude.{refl}
use Rattle.schedulers.specs.declared.round_robin.RoundRobin.{RoundRobin}
use Rattle.schedulers.specs.Scheduling.{fresh, round_robin}
use Rattle.schedulers.specs.Lawful.{round_robin_laws, fresh_idle}
use Rattle.class_tree.specs.declared.state.ClassTreeState.{ClassTreeState}
use Rattle.class_tree.specs.Levels.{Levels, Tree}

abbrev pub round_robins : Levels
round_robins = record {
  Outer = RoundRobin 4;
  Inner = RoundRobin 8;
  outer = round_robin 4;
  inner = round_robin 8;
  outer_laws = round_robin_laws 4;
  inner_laws = round_robin_laws 8;
  outer_bound = λ _. refl;
  inner_bound = λ _. refl;
  fresh = fresh 8;
  fresh_idle = fresh_idle 8;
}

abbrev pub tree_of : ClassTreeState → Tree round_robins
tree_of s = record { classes = s.classes; slots = s.slots }

abbrev pub state_of : Tree round_robins → ClassTreeState
state_of t = record { classes = t.classes; slots = t.slots }
