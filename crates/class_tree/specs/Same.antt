-- Two class trees with one state are one, since a tree is sound in one way at most.
use Rattle.std.specs.Prelude.{◌≡◌}
use Rattle.std.proofs.Common.{ap}
use mathlib.Core.HLevel.{is_prop→PathP}
use Rattle.std.proofs.Math.Bool.{Bool-set}
use Rattle.std.proofs.Math.Nat.{ℕ_set}
use Rattle.class_tree.specs.declared.state.ClassTreeState.{ClassTreeState}
use Rattle.class_tree.specs.declared.class_tree.ClassTree.{ClassTree}
use Rattle.class_tree.specs.Levels.{Tree}
use Rattle.class_tree.specs.Rule.{Sound}
use Rattle.class_tree.specs.RoundRobins.{round_robins, tree_of, state_of}

abbrev pub SoundState : ClassTreeState → Type 0
SoundState s = Sound round_robins (tree_of s)

pub same : (s t : ClassTree) → s.state ≡ t.state → s ≡ t
same s t e = λ i. record {
  state = e i;
  sound = is_prop→PathP (λ j. SoundState (e j)) (λ j x y k. (ℕ_set _ _ x.0 y.0 k, λ c. Bool-set _ _ (x.1 c) (y.1 c) k)) s.sound t.sound i;
}

pub same_tree : (s t : ClassTree) → tree_of s.state ≡ tree_of t.state → s ≡ t
same_tree s t e = same s t (ap (λ (x : Tree round_robins). state_of x) e)
