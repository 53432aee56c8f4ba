-- Worked values of the rule.
--   two_waiting    a fresh tree, where slots 0 and 8 wait with weight 1
--   EightToFour  its picks are slot 0 eight times, then slot 8 four times
--   Bound1424     the bound of every class tree is 1,424
use Rattle.std.specs.Prelude.{◌≡◌, ◌++◌, replicate, Some}
use Rattle.meaning.specs.Scheduling.{picks}
use Rattle.class_tree.specs.declared.class_tree.ClassTree.{ClassTree}
use Rattle.class_tree.specs.Scheduling.{fresh, class_tree}

abbrev pub two_waiting : ClassTree
two_waiting = class_tree.raised (class_tree.raised fresh 0 1) 8 1

abbrev pub EightToFour : Type 0
EightToFour = picks class_tree 12 two_waiting ≡ replicate 8 (Some 0) ++ replicate 4 (Some 8)

abbrev pub Bound1424 : Type 0
Bound1424 = (t : ClassTree) → class_tree.bound t ≡ 1424
