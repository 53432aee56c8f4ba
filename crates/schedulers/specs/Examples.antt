-- Worked values of the rule.
--   two_waiting  a fresh round robin over 32 places, where place 0 waits with weight 2 and place 1 with weight 1
--   TwoToOne   its picks are 0, 0, 1, 0, 0, 1
--   Bound248    the bound of every round robin over 32 places is 248
use Rattle.std.specs.Prelude.{◌≡◌, [], ◌∷◌, Some}
use Rattle.meaning.specs.Scheduling.{picks}
use Rattle.schedulers.specs.declared.round_robin.RoundRobin.{RoundRobin}
use Rattle.schedulers.specs.Scheduling.{fresh, round_robin}

abbrev pub two_waiting : RoundRobin 32
two_waiting = (round_robin 32).raised ((round_robin 32).raised (fresh 32) 0 2) 1 1

abbrev pub TwoToOne : Type 0
TwoToOne = picks (round_robin 32) 6 two_waiting ≡ Some 0 ∷ (Some 0 ∷ (Some 1 ∷ (Some 0 ∷ (Some 0 ∷ (Some 1 ∷ [])))))

abbrev pub Bound248 : Type 0
Bound248 = (r : RoundRobin 32) → (round_robin 32).bound r ≡ 248
