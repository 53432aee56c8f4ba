-- The weighted round robin keeps the laws of a scheduler, for every number of places.
use Rattle.std.specs.Prelude.{◌≡◌, ℕ, ◌<◌, ◌≤◌, true, false, ltb, is_some, Some, None, Option, ◌≢◌, nat_le, refl}
use Rattle.std.proofs.Common.{sym, ap, inl, inr, ⊎_elim, arith}
use Rattle.std.proofs.lemmas.List.{get_or-set_other}
use Rattle.std.proofs.lemmas.Bool.{and_right, lt-ltb, lt-leb, cases_lt, cases_Bool, both_ways}
use Rattle.std.proofs.lemmas.Bool.Decides.{nat_tests}
use Rattle.std.proofs.lemmas.Grind.{common_steps}
use Rattle.meaning.specs.Below.{any_below}
use Rattle.meaning.specs.Scheduling.{SchedulingLaws}
use Rattle.meaning.proofs.AnyBelow.{any_below_true, any_below_false}
use Rattle.schedulers.specs.declared.state.RoundRobinState.{RoundRobinState}
use Rattle.schedulers.specs.Sound.{Sound}
use Rattle.schedulers.specs.Rule.{weight_of, waits, raised, lowered, next_waiting, chosen, turned, patience}
use Rattle.schedulers.specs.Scheduling.{fresh, round_robin}
use Rattle.schedulers.specs.Kept.{first_below, all_zero}
use Rattle.schedulers.specs.Same.{same}
use Rattle.schedulers.specs.Search.{distance_range, first_nearest, first_none}
use Rattle.schedulers.specs.Steps.{raise_no, by_pick, waits_weight, waits_below, waits_past}
use Rattle.schedulers.specs.Patience.{patience_falls, patience_bounded}

module _ {N : ℕ} (s : RoundRobinState N) (sound : Sound N s) where
  -- a place that does not wait begins to, with its weight
  raise_taken : (i w : ℕ) → i < N → 1 ≤ w → w ≤ 8 → waits s i ≡ false → weight_of (raised s i w) i ≡ w
  raise_taken i w l least most b =
      grind (arith, nat_tests, common_steps)

  raise_adds : (i w : ℕ) → i < N → 1 ≤ w → w ≤ 8 → waits (raised s i w) i ≡ true
  raise_adds i w l least most =
      grind (arith, nat_tests, common_steps)

  raise_others : (i w j : ℕ) → (j ≢ i) → weight_of (raised s i w) j ≡ weight_of s j
  raise_others i w j ne =
      grind (arith, nat_tests, common_steps)

  raise_patience : (i w j : ℕ) → patience (raised s i w) j ≤ patience s j
  raise_patience i w j =
      grind (arith, nat_tests)

  lower_removes : (i : ℕ) → waits (lowered s i) i ≡ false
  lower_removes i =
      grind (arith, nat_tests, common_steps, cases_lt i N, waits_past s sound i)

  lower_idle : (i : ℕ) → waits s i ≡ false → lowered s i ≡ s
  lower_idle i b =
      grind (arith, nat_tests, common_steps)

  -- a search that finds nothing passed every place
  search_none : next_waiting s ≡ None → (i : ℕ) → waits s i ≡ false
  search_none e i =
      ⊎_elim
      (λ (b : waits s i ≡ true).
      let l : i < N = waits_below s sound i b in
      let turn : s.turn < N = omega (arith, sound.1) in
      absurd (omega (arith, first_none s.weights N N s.turn i turn e l (waits_weight s i b), distance_range N s.turn i turn l)))
      (λ (b : waits s i ≡ false). b)
      (cases_Bool (waits s i))

  pub search_some : (i : ℕ) → next_waiting s ≡ Some i → waits s i ≡ true
  search_some i e =
      let l : i < N = first_below s.weights N N s.turn i sound.1 (omega arith) e in
      lt-ltb 0 _ (first_nearest s.weights N N s.turn i (omega (arith, sound.1)) e).0

  -- so it finds a place exactly where one waits
  pub search_any : (o : Option ℕ) → o ≡ next_waiting s → is_some o ≡ any_below N (waits s)
  search_any (Some i) e = let b = search_some i (sym e) in sym (any_below_true N (waits s) i (waits_below s sound i b) b)
  search_any None e = sym (any_below_false N (waits s) (search_none (sym e)))

  pick_absent : chosen s ≡ None → (i : ℕ) → waits s i ≡ false
  pick_absent e i =
      let none = λ (f : next_waiting s ≡ None). search_none f i in grind (arith, nat_tests, none)

  pick_waits : (i : ℕ) → chosen s ≡ Some i → waits s i ≡ true
  pick_waits i e =
      grind (arith, nat_tests, search_some i)

  pick_idle : ((i : ℕ) → waits s i ≡ false) → chosen s ≡ None
  pick_idle idle = nothing (chosen s) refl
    where
      nothing : (o : Option ℕ) → chosen s ≡ o → o ≡ None
      nothing (Some i) e = absurd (both_ways (waits s i) (idle i) (pick_waits i e))
      nothing None e = refl

  pick_still : chosen s ≡ None → turned s ≡ s
  pick_still e =
      by_pick s (λ o t. o ≡ None → t ≡ s) (λ h f. cc) (λ j h q f. cc) (λ h q f. refl) e

  pick_weights : (i : ℕ) → weight_of (turned s) i ≡ weight_of s i
  pick_weights i = by_pick s (λ o t. weight_of t i ≡ weight_of s i) (λ _. refl) (λ j _ _. refl) (λ _ _. refl)

pub round_robin_laws : (N : ℕ) → SchedulingLaws N (round_robin N)
round_robin_laws N = record {
  waits_below = λ r. waits_below r.state r.sound;
  weight_least = λ r i b. waits_weight r.state i b;
  weight_most = λ r i _. r.sound.3 i;
  raise_adds = λ r. raise_adds r.state r.sound;
  raise_weight = λ r. raise_taken r.state r.sound;
  raise_others = λ r i w j ne. ap (λ x. ltb 0 x) (raise_others r.state r.sound i w j ne);
  raise_other_weights = λ r i w j _ ne. raise_others r.state r.sound i w j ne;
  raise_waiting = λ r i w b. same _ r (raise_no r.state i w (inr (inl b)));
  raise_outside = λ r i w l. same _ r (raise_no r.state i w (inl l));
  raise_weightless = λ r i. same _ r (raise_no r.state i 0 (inr (inr refl)));
  raise_heavy = λ r i w l. same _ r (raise_no r.state i w (inr (inr (and_right (nat_le 1 w) (nat_le w 8) (lt-leb w 8 l)))));
  lower_removes = λ r. lower_removes r.state r.sound;
  lower_others = λ r i j ne. ap (λ x. ltb 0 x) (get_or-set_other r.state.weights i j 0 0 ne);
  lower_other_weights = λ r i j _ ne. get_or-set_other r.state.weights i j 0 0 ne;
  lower_idle = λ r i b. same _ r (lower_idle r.state r.sound i b);
  pick_absent = λ r. pick_absent r.state r.sound;
  pick_idle = λ r. pick_idle r.state r.sound;
  pick_still = λ r e. same _ r (pick_still r.state r.sound e);
  pick_waits = λ r. pick_waits r.state r.sound;
  pick_keeps = λ r i. ap (λ x. ltb 0 x) (pick_weights r.state r.sound i);
  pick_weights = λ r i _. pick_weights r.state r.sound i;
  pick_patience = λ r i j e b ne. patience_falls r.state r.sound j b i e ne;
  raise_patience = λ r i w j _ _. raise_patience r.state r.sound i w j;
  lower_patience = λ r i j _ _. omega arith;
  bounded = λ r i b. patience_bounded r.state r.sound i b;
  raise_bound = λ r i w. refl;
  lower_bound = λ r i. refl;
  pick_bound = λ r. refl;
}

-- in a fresh round robin no place waits
pub fresh_idle : (N i : ℕ) → (round_robin N).waits (fresh N) i ≡ false
fresh_idle N i = ap (λ x. ltb 0 x) (all_zero N i)
