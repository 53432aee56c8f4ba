-- One slot more of a merge.
use Rattle.std.proofs.Common.{◌≡◌, ℕ, ◌+◌, refl, add-one}
use Rattle.meaning.specs.Scheduling.{Scheduling}
use Rattle.stream_calls.specs.Merges.{Placed, moved_from, moved_below}

pub moved_none : {S : Type 0} (k : Scheduling S) (a b : ℕ) (p : Placed S) → moved_below k a b 0 p ≡ p
unfolding moved_below
moved_none k a b p = refl

pub moved_more : {S : Type 0} (k : Scheduling S) (a b n : ℕ) (p : Placed S) → moved_below k a b (n + 1) p ≡ moved_from k a b n (moved_below k a b n p)
unfolding moved_below
moved_more k a b n p = rw add-one
