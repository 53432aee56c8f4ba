-- The states that a round robin over N places can be in.
--   Sound       N weights of 8 at most; the turn is a place, or 0 where there is none; a credit of 7 at most
--   sound_prop  a state is sound in one way at most
use Rattle.std.specs.Prelude.{◌≡◌, ℕ, ◌-◌, ◌≤◌, length, slice_index}
use Rattle.std.proofs.Math.Nat.{ℕ_set}
use Rattle.std.proofs.Math.Bridge.{le_prop}
use Rattle.schedulers.specs.declared.state.RoundRobinState.{RoundRobinState}

abbrev pub Sound : (N : ℕ) → RoundRobinState N → Type 0
Sound N s = (length s.weights ≡ N) × (s.turn ≤ N - 1) × (s.credit ≤ 7) × ((i : ℕ) → slice_index s.weights i ≤ 8)

pub sound_prop : (N : ℕ) (s : RoundRobinState N) → IsProp (Sound N s)
sound_prop N s x y = λ k. (ℕ_set _ _ x.0 y.0 k, le_prop x.1 y.1 k, le_prop x.2 y.2 k, λ i. le_prop (x.3 i) (y.3 i) k)
