use Rattle.std.proofs.Common.{◌≡◌, ℕ, ◌<◌, ◌≤◌, Some, sym, arith, rules}
use Rattle.schedulers.specs.declared.state.RoundRobinState.{RoundRobinState}
use Rattle.schedulers.specs.Rule.{weight_of, next_waiting}
use Rattle.schedulers.specs.Sound.{Sound}
use Rattle.schedulers.specs.Steps.{waits_weight, waits_below}
use Rattle.schedulers.specs.Lawful.{search_some}
use Rattle.schedulers.proofs.round_robin.RoundRobin.pick.Goals as goal

-- the place that the search found
found : {N : ℕ} (s : RoundRobinState N) → Sound N s → (i : ℕ) → Some i ≡ next_waiting s → (i < N) × (0 < weight_of s i)
found s sound i e = let w = search_some s sound i (sym e) in (waits_below s sound i w, waits_weight s i w)

pub offset_bounds-self-place : goal.offset_bounds-self-place
offset_bounds-self-place g c = let r = c.args.self.now in let f = found r.state r.sound _ c.in_ok-place.ensures in search rules

pub bounds-self-place : goal.bounds-self-place
bounds-self-place g c = let r = c.args.self.now in (found r.state r.sound _ c.in_ok-place.ensures).0

pub overflow_sub-self-2 : goal.overflow_sub-self-2
overflow_sub-self-2 g c = let r = c.args.self.now in let f = found r.state r.sound _ c.in_ok-place.ensures in omega arith

pub invariant_of-self-2 : goal.invariant_of-self-2
invariant_of-self-2 g c =
    let r = c.args.self.now in
    let f = found r.state r.sound _ c.in_ok-place.ensures in
    let most : weight_of r.state c.in_ok-place.place ≤ 8 = r.sound.3 c.in_ok-place.place in
    grind arith
