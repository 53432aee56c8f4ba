-- The rule leads from sound states to sound states.
--   place_after_below   the place after one of n places is one of them
--   first_below         so is a place that a search finds
--   set_most            a list of numbers of at most b stays one when such a number is written into it
--   with_weight_sound   a sound state stays sound with another weight of 8 at most,
--   raised_sound        after a raise,
--   lowered_sound       after a lower,
--   spent_sound         with one credit less,
--   after_search_sound  after a search
--   turned_sound        and after a pick
--   all_zero            no place of a fresh state has a weight
--   fresh_sound         a fresh state is sound
use Rattle.std.specs.Prelude.{◌≡◌, ℕ, zero, suc, ◌-◌, ◌<◌, ◌≤◌, not, ◌&&◌, List, [], ◌∷◌, replicate, Some, None, Option, nat_lt, slice_index, slice_set, refl}
use Rattle.std.proofs.Common.{◌∙◌, arith, length-set}
use Rattle.std.proofs.lemmas.List.{length-replicate}
use Rattle.std.proofs.lemmas.Bool.{cond_both}
use Rattle.std.proofs.lemmas.Bool.Decides.{nat_tests}
use Rattle.schedulers.specs.declared.state.RoundRobinState.{RoundRobinState}
use Rattle.schedulers.specs.Sound.{Sound}
use Rattle.schedulers.specs.Rule.{place_after, first_waiting, is_weight, waits, with_weight, raised, lowered, goes_on, next_waiting, spent, after_search, turned, fresh}

pub place_after_below : (n p : ℕ) → p < n → place_after n p < n
place_after_below n p h = grind (arith, nat_tests)

pub first_below : (ws : List ℕ) (n k p j : ℕ) → p ≤ n - 1 → k ≤ n → first_waiting ws n k p ≡ Some j → j < n
first_below ws n zero p j h l e = cc
first_below ws n (suc k) p j h l e =
    let below : place_after n p < n = place_after_below n p (omega arith) in
    grind (arith, nat_tests, first_below ws n k (place_after n p) j (omega arith) (omega arith))

set_most : (xs : List ℕ) (i w b : ℕ) → w ≤ b → ((k : ℕ) → slice_index xs k ≤ b) → (k : ℕ) → slice_index (slice_set xs i w) k ≤ b
set_most [] i w b h all k = all k
set_most (x ∷ xs) zero w b h all zero = h
set_most (x ∷ xs) zero w b h all (suc k) = all (suc k)
set_most (x ∷ xs) (suc i) w b h all zero = all zero
set_most (x ∷ xs) (suc i) w b h all (suc k) = set_most xs i w b h (λ m. all (suc m)) k

module _ {N : ℕ} (s : RoundRobinState N) (sound : Sound N s) where
  pub with_weight_sound : (i w : ℕ) → w ≤ 8 → Sound N (with_weight s i w)
  with_weight_sound i w h = (length-set s.weights i w ∙ sound.0, sound.1, sound.2, set_most s.weights i w 8 h sound.3)

  pub raised_sound : (i w : ℕ) → Sound N (raised s i w)
  raised_sound i w =
      cond_both (nat_lt i N && (not (waits s i) && is_weight w)) (with_weight s i w) s (λ x. Sound N x)
      (λ e. with_weight_sound i w (grind (arith, nat_tests)))
      (λ _. sound)

  pub lowered_sound : (i : ℕ) → Sound N (lowered s i)
  lowered_sound i = with_weight_sound i 0 (omega arith)

  spent_sound : Sound N (spent s)
  spent_sound = (sound.0, sound.1, omega (arith, sound.2), sound.3)

  after_search_sound : (o : Option ℕ) → next_waiting s ≡ o → Sound N (after_search s o)
  after_search_sound (Some i) e =
      let below : i < N = first_below s.weights N N s.turn i sound.1 (omega arith) e in
      (sound.0, omega arith, omega (arith, sound.3 i), sound.3)
  after_search_sound None e = sound

  pub turned_sound : Sound N (turned s)
  turned_sound = cond_both (goes_on s) (spent s) (after_search s (next_waiting s)) (λ x. Sound N x) (λ _. spent_sound) (λ _. after_search_sound (next_waiting s) refl)

pub all_zero : (n k : ℕ) → ◌≡◌ {A = ℕ} (slice_index (replicate n 0) k) 0
all_zero zero k = refl
all_zero (suc n) zero = refl
all_zero (suc n) (suc k) = all_zero n k

pub fresh_sound : (N : ℕ) → Sound N (fresh N)
fresh_sound N = (length-replicate N 0, omega arith, omega arith, λ k. omega (arith, all_zero N k))
