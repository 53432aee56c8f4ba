-- What raise, lower and pick make of a round robin's state.
--   weight_past    nothing stands past the last place
--   raise_no       a raise that changes nothing
--   by_pick        the cases of a pick: the turn goes on, or a search finds a place, or it finds none
use Rattle.std.specs.Prelude.{◌≡◌, ℕ, ◌<◌, ◌≤◌, Bool, true, false, cond, ◌⊎◌, Some, None, Option, refl}
use Rattle.std.proofs.Common.{arith}
use Rattle.std.proofs.lemmas.List.{get_or_past}
use Rattle.std.proofs.lemmas.Bool.{ltb-true}
use Rattle.std.proofs.lemmas.Bool.Decides.{nat_tests}
use Rattle.schedulers.specs.declared.state.RoundRobinState.{RoundRobinState}
use Rattle.schedulers.specs.Sound.{Sound}
use Rattle.schedulers.specs.Rule.{is_weight, weight_of, waits, raised, goes_on, next_waiting, chosen, spent, taken_by, after_search, turned}

module _ {N : ℕ} (s : RoundRobinState N) where
  pub waits_weight : (i : ℕ) → waits s i ≡ true → 0 < weight_of s i
  waits_weight i b = ltb-true 0 _ b

  -- no such place, or one that waits, or a weight that is not 1 to 8
  pub raise_no : (i w : ℕ) → (N ≤ i) ⊎ ((waits s i ≡ true) ⊎ (is_weight w ≡ false)) → raised s i w ≡ s
  raise_no i w why = grind (arith, nat_tests)

  pub by_pick : (P : Option ℕ → RoundRobinState N → Type 0)
      → (goes_on s ≡ true → P (Some s.turn) (spent s))
      → ((i : ℕ) → goes_on s ≡ false → next_waiting s ≡ Some i → P (Some i) (taken_by s i))
      → (goes_on s ≡ false → next_waiting s ≡ None → P None s)
      → P (chosen s) (turned s)
  by_pick P again found none = either (goes_on s) refl
    where
      searched : goes_on s ≡ false → (o : Option ℕ) → next_waiting s ≡ o → P o (after_search s o)
      searched h (Some i) e = found i h e
      searched h None e = none h e

      either : (c : Bool) → goes_on s ≡ c → P (cond c (Some s.turn) (next_waiting s)) (cond c (spent s) (after_search s (next_waiting s)))
      either true h = again h
      either false h = searched h (next_waiting s) refl

module _ {N : ℕ} (s : RoundRobinState N) (sound : Sound N s) where
  pub weight_past : (i : ℕ) → N ≤ i → weight_of s i ≡ 0
  weight_past i h = get_or_past s.weights i 0 (omega arith)

  pub waits_past : (i : ℕ) → N ≤ i → waits s i ≡ false
  waits_past i h = grind (arith, nat_tests, weight_past i)

  pub waits_below : (i : ℕ) → waits s i ≡ true → i < N
  waits_below i b = grind (arith, waits_past i)
