-- The class tree as a scheduler: the rule over round robins, on trees that are sound.
--   fresh_state  a fresh state: every round robin in it is fresh
--   all_fresh    a list of one value has it at every place
--   fresh_sound  a fresh state is sound
--   fresh        a fresh tree
--   class_tree   its functions, by the rule
use Rattle.std.specs.Prelude.{◌≡◌, ℕ, zero, suc, ◌+◌, ◌*◌, replicate, slice_index_or, refl}
use Rattle.std.proofs.Common.{sym, ◌∙◌, ap}
use Rattle.meaning.specs.Scheduling.{Scheduling}
use Rattle.meaning.proofs.AnyBelow.{any_below_false}
use Rattle.schedulers.specs.declared.round_robin.RoundRobin.{RoundRobin}
use Rattle.schedulers.specs.Scheduling as rr
use Rattle.schedulers.specs.Lawful.{fresh_idle}
use Rattle.class_tree.specs.declared.state.ClassTreeState.{ClassTreeState}
use Rattle.class_tree.specs.declared.class_tree.ClassTree.{ClassTree}
use Rattle.class_tree.specs.Rule as rule
use Rattle.class_tree.specs.Kept.{raised_sound, lowered_sound, turned_sound}
use Rattle.class_tree.specs.RoundRobins.{round_robins, tree_of, state_of}

abbrev pub fresh_state : ClassTreeState
fresh_state = record { classes = rr.fresh 4; slots = replicate 4 (rr.fresh 8) }

all_fresh : {A : Type 0} (x : A) (n i : ℕ) → slice_index_or (replicate n x) i x ≡ x
all_fresh x zero i = refl
all_fresh x (suc n) zero = refl
all_fresh x (suc n) (suc i) = all_fresh x n i

pub fresh_sound : rule.Sound round_robins (tree_of fresh_state)
fresh_sound = (
  refl,
  λ c. fresh_idle 4 c
      ∙ sym (ap (λ (m : RoundRobin 8). rule.any_waits round_robins m) (all_fresh (rr.fresh 8) 4 c) ∙ any_below_false 8 ((rr.round_robin 8).waits (rr.fresh 8)) (fresh_idle 8)),
)

abbrev pub fresh : ClassTree
fresh = record { state = fresh_state; sound = fresh_sound }

abbrev pub class_tree : Scheduling ClassTree
class_tree = record {
  waits = λ t i. rule.waits round_robins (tree_of t.state) i;
  weight = λ t i. rule.weight round_robins (tree_of t.state) i;
  raised = λ t i w. record { state = state_of (rule.raised round_robins (tree_of t.state) i w); sound = raised_sound round_robins (tree_of t.state) t.sound i w };
  lowered = λ t i. record { state = state_of (rule.lowered round_robins (tree_of t.state) i); sound = lowered_sound round_robins (tree_of t.state) t.sound i };
  chosen = λ t. rule.chosen round_robins (tree_of t.state);
  turned = λ t. record { state = state_of (rule.turned round_robins (tree_of t.state)); sound = turned_sound round_robins (tree_of t.state) t.sound };
  patience = λ t i. rule.patience round_robins (tree_of t.state) i;
  bound = λ t. 25 * 56 + 24;
  spare = fresh;
}
