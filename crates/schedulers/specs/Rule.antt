-- The rule of the weighted round robin over N places, on its plain state.
--   place_after    the place after p, upward and round n places
--   first_waiting  the first place with a weight among the k places after p
--   is_weight      whether w is one of 1 to 8
--   patience_at    the patience of the place that is d places after the turn, with that credit
--   weight_of      the weight of place i, 0 where it does not wait
--   waits          whether place i waits
--   with_weight    the state with another weight at place i
--   raised         place i begins to wait with weight w, if there is such a place, it does not wait, and w is a weight
--   lowered        place i waits no more; turn and credit stay
--   goes_on        whether the turn's place waits and has credit left
--   next_waiting   the first place that waits after the turn, the turn itself last
--   chosen         what a pick answers: the turn's place while it goes on, else the next place that waits
--   spent          the state with one credit less
--   taken_by       place i becomes the turn, with credit its weight less 1
--   after_search   the state after a search that found a place, or none
--   turned         the state after a pick
--   patience       the patience of place i, which is (i - turn) mod N places after the turn
--   fresh          no place waits, the turn is the last place, and there is no credit
use Rattle.std.specs.Prelude.{ℕ, zero, suc, ◌+◌, ◌-◌, ◌*◌, ◌%◌, Bool, cond, not, ◌&&◌, List, replicate, Some, None, Option, ◌==◌, nat_le, nat_lt, slice_index, slice_set}
use Rattle.schedulers.specs.declared.state.RoundRobinState.{RoundRobinState}

abbrev pub place_after : ℕ → ℕ → ℕ
place_after n p = cond (p + 1 == n) 0 (p + 1)

abbrev pub first_waiting : List ℕ → ℕ → ℕ → ℕ → Option ℕ
first_waiting ws n zero p = None
first_waiting ws n (suc k) p = cond (nat_lt 0 (slice_index ws (place_after n p))) (Some (place_after n p)) (first_waiting ws n k (place_after n p))

abbrev pub is_weight : ℕ → Bool
is_weight w = nat_le 1 w && nat_le w 8

abbrev pub patience_at : ℕ → ℕ → ℕ → ℕ
patience_at n zero zero = (n - 1) * 8
patience_at n zero (suc credit) = 0
patience_at n (suc d) credit = credit + d * 8

module _ {N : ℕ} (s : RoundRobinState N) where
  abbrev pub weight_of : ℕ → ℕ
  weight_of i = slice_index s.weights i

  abbrev pub waits : ℕ → Bool
  waits i = nat_lt 0 (weight_of i)

  abbrev pub with_weight : ℕ → ℕ → RoundRobinState N
  with_weight i w = record { turn = s.turn; credit = s.credit; weights = slice_set s.weights i w }

  abbrev pub raised : ℕ → ℕ → RoundRobinState N
  raised i w = cond (nat_lt i N && (not (waits i) && is_weight w)) (with_weight i w) s

  abbrev pub lowered : ℕ → RoundRobinState N
  lowered i = with_weight i 0

  abbrev pub goes_on : Bool
  goes_on = waits s.turn && nat_lt 0 s.credit

  abbrev pub next_waiting : Option ℕ
  next_waiting = first_waiting s.weights N N s.turn

  abbrev pub chosen : Option ℕ
  chosen = cond goes_on (Some s.turn) next_waiting

  abbrev pub spent : RoundRobinState N
  spent = record { turn = s.turn; credit = s.credit - 1; weights = s.weights }

  abbrev pub taken_by : ℕ → RoundRobinState N
  taken_by i = record { turn = i; credit = weight_of i - 1; weights = s.weights }

  abbrev pub after_search : Option ℕ → RoundRobinState N
  after_search (Some i) = taken_by i
  after_search None = s

  abbrev pub turned : RoundRobinState N
  turned = cond goes_on spent (after_search next_waiting)

  abbrev pub patience : ℕ → ℕ
  patience i = patience_at N ((i + N - s.turn) % N) s.credit

abbrev pub fresh : (N : ℕ) → RoundRobinState N
fresh N = record { turn = N - 1; credit = 0; weights = replicate N 0 }
