-- Numbers that a table may hold. Assumes nothing.
--   fits n         below 2^63
--   all_fit ns     each of them
use Rattle.std.specs.Prelude.{ℕ, ◌^◌, Bool, true, ◌&&◌, List, [], ◌∷◌, nat_lt}

abbrev pub fits : ℕ → Bool
fits n = nat_lt n (2 ^ 63)

abbrev pub all_fit : List ℕ → Bool
all_fit [] = true
all_fit (n ∷ ns) = fits n && all_fit ns
