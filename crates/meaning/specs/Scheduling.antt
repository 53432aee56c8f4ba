-- What a scheduler is.
--   Scheduling       its functions: the questions about a state, and the states that its calls lead to
--   SchedulingLaws  what these functions keep, over n places
--   picks            the answers of so many picks in a row
--   turned_by        the state after so many picks in a row
use Rattle.std.specs.Prelude.{◌≡◌, ℕ, zero, suc, ◌<◌, ◌≤◌, Bool, true, false, List, [], ◌∷◌, Some, None, Option, ◌≢◌}

pub record Scheduling (S : Type 0) : Type 0 where
  -- whether a slot waits, and the weight of one that does
  pub waits : S → ℕ → Bool
  pub weight : S → ℕ → ℕ
  -- the state after a slot is raised with a weight, and after it is lowered
  pub raised : S → ℕ → ℕ → S
  pub lowered : S → ℕ → S
  -- what a pick answers, and the state after it
  pub chosen : S → Option ℕ
  pub turned : S → S
  -- how many picks of others a waiting slot may still see before its own, and the most that this can be
  pub patience : S → ℕ → ℕ
  pub bound : S → ℕ
  -- any scheduler: what a look past the end of a list of them gives
  pub spare : S

pub record SchedulingLaws (n : ℕ) {S : Type 0} (k : Scheduling S) : Type 0 where
  -- the slots that wait are below n, and their weights are 1 to 8
  pub waits_below : (s : S) (i : ℕ) → k.waits s i ≡ true → i < n
  pub weight_least : (s : S) (i : ℕ) → k.waits s i ≡ true → 1 ≤ k.weight s i
  pub weight_most : (s : S) (i : ℕ) → k.waits s i ≡ true → k.weight s i ≤ 8
  -- raise adds the slot with that weight, and touches no other slot
  pub raise_adds : (s : S) (i w : ℕ) → i < n → 1 ≤ w → w ≤ 8 → k.waits (k.raised s i w) i ≡ true
  pub raise_weight : (s : S) (i w : ℕ) → i < n → 1 ≤ w → w ≤ 8 → k.waits s i ≡ false → k.weight (k.raised s i w) i ≡ w
  pub raise_others : (s : S) (i w j : ℕ) → (j ≢ i) → k.waits (k.raised s i w) j ≡ k.waits s j
  pub raise_other_weights : (s : S) (i w j : ℕ) → k.waits s j ≡ true → (j ≢ i) → k.weight (k.raised s i w) j ≡ k.weight s j
  -- raise leaves the state as it is for a slot that waits, a slot out of range, and a weight that is not 1 to 8
  pub raise_waiting : (s : S) (i w : ℕ) → k.waits s i ≡ true → k.raised s i w ≡ s
  pub raise_outside : (s : S) (i w : ℕ) → n ≤ i → k.raised s i w ≡ s
  pub raise_weightless : (s : S) (i : ℕ) → k.raised s i 0 ≡ s
  pub raise_heavy : (s : S) (i w : ℕ) → 8 < w → k.raised s i w ≡ s
  -- lower removes the slot, touches no other slot, and leaves the state as it is where the slot does not wait
  pub lower_removes : (s : S) (i : ℕ) → k.waits (k.lowered s i) i ≡ false
  pub lower_others : (s : S) (i j : ℕ) → (j ≢ i) → k.waits (k.lowered s i) j ≡ k.waits s j
  pub lower_other_weights : (s : S) (i j : ℕ) → k.waits s j ≡ true → (j ≢ i) → k.weight (k.lowered s i) j ≡ k.weight s j
  pub lower_idle : (s : S) (i : ℕ) → k.waits s i ≡ false → k.lowered s i ≡ s
  -- a pick is absent exactly where no slot waits, and then it leaves the state as it is
  pub pick_absent : (s : S) → k.chosen s ≡ None → (i : ℕ) → k.waits s i ≡ false
  pub pick_idle : (s : S) → ((i : ℕ) → k.waits s i ≡ false) → k.chosen s ≡ None
  pub pick_still : (s : S) → k.chosen s ≡ None → k.turned s ≡ s
  -- otherwise it names a slot that waits; it leaves the set and the weights
  pub pick_waits : (s : S) (i : ℕ) → k.chosen s ≡ Some i → k.waits s i ≡ true
  pub pick_keeps : (s : S) (i : ℕ) → k.waits (k.turned s) i ≡ k.waits s i
  pub pick_weights : (s : S) (i : ℕ) → k.waits s i ≡ true → k.weight (k.turned s) i ≡ k.weight s i
  -- and it lowers the patience of every other slot that waits, by at least 1
  pub pick_patience : (s : S) (i j : ℕ) → k.chosen s ≡ Some i → k.waits s j ≡ true → (j ≢ i) → k.patience (k.turned s) j < k.patience s j
  -- raise and lower raise nobody else's patience
  pub raise_patience : (s : S) (i w j : ℕ) → k.waits s j ≡ true → (j ≢ i) → k.patience (k.raised s i w) j ≤ k.patience s j
  pub lower_patience : (s : S) (i j : ℕ) → k.waits s j ≡ true → (j ≢ i) → k.patience (k.lowered s i) j ≤ k.patience s j
  -- no patience is above the bound, and the bound never changes
  pub bounded : (s : S) (i : ℕ) → k.waits s i ≡ true → k.patience s i ≤ k.bound s
  pub raise_bound : (s : S) (i w : ℕ) → k.bound (k.raised s i w) ≡ k.bound s
  pub lower_bound : (s : S) (i : ℕ) → k.bound (k.lowered s i) ≡ k.bound s
  pub pick_bound : (s : S) → k.bound (k.turned s) ≡ k.bound s

abbrev pub picks : {S : Type 0} → Scheduling S → ℕ → S → List (Option ℕ)
picks k zero s = []
picks k (suc n) s = k.chosen s ∷ picks k n (k.turned s)

abbrev pub turned_by : {S : Type 0} → Scheduling S → ℕ → S → S
turned_by k zero s = s
turned_by k (suc n) s = turned_by k n (k.turned s)
