-- Sums over the numbers below n.
--   sum_is     the history's sum of equal terms is the manager's
--   sum_most   a bound on each term bounds the sum
use Rattle.std.proofs.Common.{◌≡◌, ℕ, zero, suc, ◌+◌, ◌*◌, ◌<◌, ◌≤◌, refl, ap₂, suc-mul, arith}
use Rattle.meaning.specs.Below.{sum_below}
use Rattle.law.specs.History.{sum_to}

pub sum_is : (n : ℕ) (a b : ℕ → ℕ) → ((i : ℕ) → i < n → a i ≡ b i) → sum_below n a ≡ sum_to n b
unfolding sum_below sum_to
sum_is zero a b e = refl
sum_is (suc n) a b e = ap₂ ◌+◌ (sum_is n a b (λ i l. e i (omega arith))) (e n (omega arith))

pub sum_most : (n m : ℕ) (a : ℕ → ℕ) → ((i : ℕ) → i < n → a i ≤ m) → sum_to n a ≤ n * m
unfolding sum_to
sum_most zero m a h = omega arith
sum_most (suc n) m a h = omega (arith, sum_most n m a (λ i l. h i (omega arith)), h n (omega arith), suc-mul n m)
