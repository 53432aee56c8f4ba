-- What is added up or looked for over a list is what is added up or looked for below its length.
use Rattle.std.proofs.Common.{◌≡◌, ℕ, zero, suc, ◌+◌, ◌<◌, ◌≤◌, Bool, ◌&&◌, ◌||◌, List, length, get_or, take, sym, refl, ap, ap₂, ◌∙◌, add-one, arith}
use Rattle.std.specs.List.{sum_by, list_any, list_all, enumerate_from, range_with_len}
use Rattle.std.proofs.Math.Bool.{or_comm}
use Rattle.std.proofs.lemmas.List.{take_all}
use Rattle.std.proofs.lemmas.List.Sums.{sum_by_more}
use Rattle.std.proofs.lemmas.List.Folds.{list_any_more, list_all_more}
use Rattle.std.proofs.lemmas.List.FromFn.{length-enumerate_from, get_or-enumerate_from, length-range_with_len, get_or-range_with_len}
use Rattle.meaning.specs.Below.{sum_below, any_below, all_below}

module _ {X : Type 0} (xs : List X) (d : X) where
  sum_front : (f : X → ℕ) (n : ℕ) → n ≤ length xs → sum_by f (take n xs) ≡ sum_below n (λ i. f (get_or xs i d))
  unfolding sum_below
  sum_front f zero h = refl
  sum_front f (suc n) h = rw (add-one n) at (sum_by_more f xs n d (omega arith)) ∙ ap (λ v. v + f (get_or xs n d)) (sum_front f n (omega arith))

  pub sum_by_below : (f : X → ℕ) (n : ℕ) → length xs ≡ n → sum_by f xs ≡ sum_below n (λ i. f (get_or xs i d))
  sum_by_below f n e = ap (sum_by f) (sym (take_all n xs (omega arith))) ∙ sum_front f n (omega arith)

  any_front : (p : X → Bool) (n : ℕ) → n ≤ length xs → list_any p (take n xs) ≡ any_below n (λ i. p (get_or xs i d))
  unfolding any_below
  any_front p zero h = refl
  any_front p (suc n) h = rw (add-one n) at (list_any_more p xs n d (omega arith)) ∙ or_comm (list_any p (take n xs)) (p (get_or xs n d)) ∙ ap (λ b. p (get_or xs n d) || b) (any_front p n (omega arith))

  pub any_by_below : (p : X → Bool) (n : ℕ) → length xs ≡ n → list_any p xs ≡ any_below n (λ i. p (get_or xs i d))
  any_by_below p n e = ap (list_any p) (sym (take_all n xs (omega arith))) ∙ any_front p n (omega arith)

-- whether all of a list pass is whether each of its reads does
module _ {Y : Type 0} (ys : List Y) (e : Y) (p : Y → Bool) (q : ℕ → Bool) (each : (i : ℕ) → i < length ys → p (get_or ys i e) ≡ q i) where
  all_front : (n : ℕ) → n ≤ length ys → list_all p (take n ys) ≡ all_below n q
  unfolding all_below
  all_front zero h = refl
  all_front (suc n) h = rw (add-one n) at (list_all_more p ys n e (omega arith)) ∙ ap₂ (λ a b. a && b) (all_front n (omega arith)) (each n (omega arith))

  pub all_by_below : (n : ℕ) → length ys ≡ n → list_all p ys ≡ all_below n q
  all_by_below n m = ap (list_all p) (sym (take_all n ys (omega arith))) ∙ all_front n (omega arith)

-- the elements of a list with their places, and the numbers below n
pub placed_by_below : {X : Type 0} (xs : List X) (d : X) (p : ℕ × X → Bool) (n : ℕ) → length xs ≡ n → list_all p (enumerate_from 0 xs) ≡ all_below n (λ i. p (i, get_or xs i d))
placed_by_below xs d p n m =
    let many : length (enumerate_from 0 xs) ≡ length xs = length-enumerate_from 0 xs in
    all_by_below (enumerate_from 0 xs) (0, d) p (λ i. p (i, get_or xs i d))
    (λ i l. let place : 0 + i ≡ i = omega arith in ap p (get_or-enumerate_from 0 xs i (0, d) (omega (arith, many)) ∙ ap (λ j. (j, get_or xs i d)) place))
    n (many ∙ m)

pub numbers_by_below : (p : ℕ → Bool) (n : ℕ) → list_all p (range_with_len 0 n) ≡ all_below n p
numbers_by_below p n =
    let many : length (range_with_len 0 n) ≡ n = length-range_with_len 0 n in
    all_by_below (range_with_len 0 n) 0 p p (λ i l. let place : 0 + i ≡ i = omega arith in ap p (get_or-range_with_len 0 n i 0 (omega (arith, many)) ∙ place)) n many
