use Rattle.std.proofs.Common.{◌≡◌, ℕ, zero, suc, ◌+◌, ◌-◌, ◌<◌, cond, List, [], ◌∷◌, ◌++◌, Some, nat_lt, slice_index, sym, refl, ap, ◌∙◌, arith, rules, tests}
use Rattle.std.specs.List.{find, range_with_len}
use Rattle.std.proofs.lemmas.Iterator.{YieldsList-from_range}
use Rattle.std.proofs.lemmas.Iterator.Adapters.{option_map_id}
use Rattle.std.proofs.lemmas.Iterator.Consumers.{YieldsList-from_chain}
use Rattle.std.proofs.lemmas.Iterator.Search.{find_from_yields_List}
use Rattle.std.proofs.lemmas.List.{append-nil}
use Rattle.std.proofs.lemmas.Bool.{cond-false}
use Rattle.std.proofs.lemmas.Bool.Decides.{nat_tests}
use Rattle.schedulers.specs.declared.state.RoundRobinState.{RoundRobinState}
use Rattle.schedulers.specs.Rule.{place_after, first_waiting, next_waiting, waits}
use Rattle.schedulers.specs.Sound.{Sound}
use Rattle.schedulers.specs.Steps.{waits_past}
use Rattle.schedulers.proofs.round_robin.RoundRobin.next_waiting.Goals as goal

-- the k places after p
abbrev places : ℕ → ℕ → ℕ → List ℕ
places n zero p = []
places n (suc k) p = place_after n p ∷ places n k (place_after n p)

first_found : (ws : List ℕ) (n k p : ℕ) → first_waiting ws n k p ≡ find (λ i. nat_lt 0 (slice_index ws i)) (places n k p)
first_found ws n zero p = refl
first_found ws n (suc k) p = ap (λ o. cond (nat_lt 0 (slice_index ws (place_after n p))) (Some (place_after n p)) o) (first_found ws n k (place_after n p))

-- upward to a place, and then on
upward : (n k m p : ℕ) → p + k < n → places n (k + m) p ≡ range_with_len (p + 1) k ++ places n m (p + k)
upward n zero m p h = grind arith
upward n (suc k) m p h =
    let e : suc k + m ≡ suc (k + m) = omega arith in
    rw e (grind (arith, nat_tests, upward n k m (p + 1) (omega arith)))

-- all the places after one of n: those above it, and those from 0 up to it
round : (n t : ℕ) → t < n → places n n t ≡ range_with_len (t + 1) (n - (t + 1)) ++ range_with_len 0 (t + 1)
round n t h =
    let k = n - (t + 1) in
    let all : k + suc t ≡ n = omega arith in
    let above = upward n k (suc t) t (omega arith) in
    let low = upward n t 0 0 (omega arith) in
    rw (← all) (grind (arith, nat_tests, append-nil {A = ℕ}, above, low))

in_turn : (N : ℕ) (s : RoundRobinState N) → Sound N s → find (waits s) (range_with_len (s.turn + 1) (N - (s.turn + 1)) ++ range_with_len 0 (s.turn + 1)) ≡ next_waiting s
in_turn zero s sound = let e : s.turn ≡ 0 = omega (arith, sound.1) in rw e (cond-false (waits s 0) _ _ (waits_past s sound 0 (omega arith)))
in_turn (suc n) s sound = sym (first_found s.weights (suc n) (suc n) s.turn ∙ ap (λ xs. find (waits s) xs) (round (suc n) s.turn (omega (arith, sound.1))))

pub returns : goal.returns
returns g c =
    let s = c.args.self.now.state in
    let found = find_from_yields_List (waits s) _ _ c.find.result c.find.ensures.ran
    (YieldsList-from_chain (YieldsList-from_range (s.turn + 1) g.row.N _ c.chain.ensures.first refl) (YieldsList-from_range 0 (s.turn + 1) (s.turn + 1) c.chain.ensures.second (omega arith)) c.chain.ensures.first_done c.chain.ensures.second_done)
    (λ x b q k. search (rules, tests)) in
    sym (option_map_id c.find.result) ∙ found ∙ in_turn g.row.N s c.args.self.now.sound
