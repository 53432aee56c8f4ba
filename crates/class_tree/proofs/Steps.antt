-- The state after the code has put the slots of a class back is the state that the rule gives.
--   raised_is, lowered_is  of raise and lower
--   class_below            the class that the classes' turns give is one of the four
--   picked_after           of a pick that gives a class
use Rattle.std.proofs.Common.{◌≡◌, ℕ, ◌/◌, ◌%◌, ◌<◌, List, length, get_or, set, Some, Option, ap, arith}
use Rattle.std.proofs.lemmas.List.{get_or_default}
use Rattle.schedulers.specs.declared.round_robin.RoundRobin.{RoundRobin}
use Rattle.schedulers.specs.Scheduling.{fresh, round_robin}
use Rattle.schedulers.specs.Lawful.{round_robin_laws}
use Rattle.class_tree.specs.declared.state.ClassTreeState.{ClassTreeState}
use Rattle.class_tree.specs.Rule as rule
use Rattle.class_tree.specs.RoundRobins.{round_robins, tree_of, state_of}

abbrev pub parts : RoundRobin 4 → List (RoundRobin 8) → ClassTreeState
parts classes slots = record { classes = classes; slots = slots }

same_parts : {p q : RoundRobin 4} {a b : List (RoundRobin 8)} → p ≡ q → a ≡ b → parts p a ≡ parts q b
same_parts e f = λ i. parts (e i) (f i)

module _ (t : ClassTreeState) (four : length t.slots ≡ 4) where
  -- what the code reads of a class is its slots
  read : (c : ℕ) (d : RoundRobin 8) → c < 4 → get_or t.slots c d ≡ get_or t.slots c (fresh 8)
  read c d l = let h : c < length t.slots = omega arith in get_or_default t.slots c d (fresh 8) h

  module _ (i : ℕ) (l : i < 32) (d m : RoundRobin 8) (classes : RoundRobin 4) where
    pub raised_is : (w : ℕ) → m ≡ (round_robin 8).raised (get_or t.slots (i / 8) d) (i % 8) w → classes ≡ rule.class_raised round_robins t.classes (i / 8) m
        → parts classes (set t.slots (i / 8) m) ≡ state_of (rule.raised round_robins (tree_of t) i w)
    raised_is w e f = let here = read (i / 8) d (omega arith) in cc

    pub lowered_is : m ≡ (round_robin 8).lowered (get_or t.slots (i / 8) d) (i % 8) → classes ≡ rule.class_lowered round_robins t.classes (i / 8) m
        → parts classes (set t.slots (i / 8) m) ≡ state_of (rule.lowered round_robins (tree_of t) i)
    lowered_is e f = let here = read (i / 8) d (omega arith) in cc

  module _ (c : ℕ) (e : (round_robin 4).chosen t.classes ≡ Some c) where
    pub class_below : c < 4
    class_below = (round_robin_laws 4).waits_below t.classes c ((round_robin_laws 4).pick_waits t.classes c e)

    pub picked_after : (d m : RoundRobin 8) (classes : RoundRobin 4) → classes ≡ (round_robin 4).turned t.classes → m ≡ (round_robin 8).turned (get_or t.slots c d)
        → parts classes (set t.slots c m) ≡ state_of (rule.turned round_robins (tree_of t))
    picked_after d m classes f g = let here = read c d class_below in cc (ap (λ (o : Option ℕ). rule.slots_after round_robins (tree_of t) o) e)
