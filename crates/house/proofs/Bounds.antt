-- A number that the scheduler's bound never passes bounds the waits too.
use Rattle.std.proofs.Common.{ℕ, ◌≤◌, slice_index_or, arith}
use Rattle.meaning.specs.Control.{Control}
use Rattle.meaning.specs.Scheduling.{Scheduling}
use Rattle.law.specs.Law.{Run, BoundedBy, Promises}

pub bounded_from_promises : {C S : Type 0} {k : Control C} {d : Scheduling S} {r : Run C S} (most : ℕ) → ((s : S) → d.bound s ≤ most) → Promises k d r → BoundedBy (λ _. most) r
bounded_from_promises {d = d} {r = r} most le p m n f i h at within waits same =
    omega (arith, le (slice_index_or r.schedulers f d.spare), p.bounded m n f i h at within waits same)
