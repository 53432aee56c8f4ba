use Rattle.std.proofs.Common.{◌≡◌, replicate, sym, subst}
use Rattle.schedulers.specs.declared.round_robin.RoundRobin.{RoundRobin}
use Rattle.schedulers.specs.Scheduling as rr
use Rattle.class_tree.specs.Scheduling.{fresh_state, fresh_sound}
use Rattle.class_tree.specs.Same.{SoundState}
use Rattle.class_tree.proofs.Steps.{parts}
use Rattle.class_tree.proofs.class_tree.ClassTree.new.Goals as goal

-- fresh round robins make a fresh state
fresh_parts : {p : RoundRobin 4} {q : RoundRobin 8} → p ≡ rr.fresh 4 → q ≡ rr.fresh 8 → parts p (replicate 4 q) ≡ fresh_state
fresh_parts e f = λ i. parts (e i) (replicate 4 (f i))

pub invariant_of-result : goal.invariant_of-result
invariant_of-result c = record { sound = subst SoundState (sym (fresh_parts c.new.ensures c.new-slots.ensures)) fresh_sound }
