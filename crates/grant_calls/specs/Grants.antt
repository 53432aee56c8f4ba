-- What the calls about one grant answer, and what they leave. Assumes nothing.
-- For each call: its questions, in order, and then the call itself.
--   row rs g              the row of the grant g
--   issued_rows m rs      the rows that describe grants
--   is_covered m r        question 1 of an open row: is its slot open, with open bytes covering the grant?
--   found m rs t g        the first questions of take-up and settle, which give the grant's row
--   due m rs t            the open row to expire at t: the earliest deadline, then the lower slot, then the lower grant
use Rattle.std.specs.Prelude.{◌≡◌, ℕ, ◌+◌, ◌-◌, ◌^◌, ◌<◌, ◌≤◌, Bool, not, ◌&&◌, List, [], ◌∷◌, length, take, Some, None, Ok, Option, Result, ◌==◌, nat_le, nat_lt, slice_index_or, slice_set}
use Rattle.least.specs.Order.{first_least}
use Rattle.meaning.specs.declared.refusal.Reason.TheVariants as reason
use Rattle.meaning.specs.declared.refusal.Refusal.{Refusal}
use Rattle.tables.specs.declared.core_state.Core.{Core}
use Rattle.tables.specs.declared.row.Row.{Row}
use Rattle.tables.specs.declared.stream.Stream.{Stream}
use Rattle.tables.specs.Numbers.{fits, all_fit}
use Rattle.tables.specs.Streams.{settled, expired}
use Rattle.tables.specs.Rows.{blank_row, is_open, is_due, due_upto, taken_up, settled_row, expired_row}
use Rattle.meaning.specs.Refusals.{about_nothing}
use Rattle.tables.specs.Core.{stream, timely, about_slot, at_time, put}
use Rattle.tables.specs.Replies.{Reply, reply, Question, q, asked, answered}

abbrev pub row : List Row → ℕ → Row
row rs g = slice_index_or rs g blank_row

abbrev pub issued_rows : Core → List Row → List Row
issued_rows m rs = take m.issued rs

abbrev pub is_covered : Core → Row → Bool
is_covered m r = nat_lt r.slot 32 && ((stream m r.slot).opened && nat_le r.granted (stream m r.slot).reserved)

abbrev pub found_questions : Core → List Row → ℕ → ℕ → List Question
found_questions m rs t g = q (length rs == m.capacity) reason.TablesDisagree ∷ q (timely m t) reason.NotTimely ∷ q (nat_lt g m.issued && nat_lt g (length rs)) reason.NotIssued ∷ []

abbrev pub found : Core → List Row → ℕ → ℕ → Result Row Refusal
found m rs t g = asked (found_questions m rs t g) about_nothing (row rs g)

-- a ticket is given out at the time t for the grant g
abbrev pub take_up_questions : Core → Row → List Question
take_up_questions m r = q (is_open r.fate) reason.GrantEnded ∷ q (is_covered m r) reason.TablesDisagree ∷ q (not r.taken) reason.AlreadyTaken ∷ []

abbrev pub take_up : Core → List Row → ℕ → ℕ → Reply (Result ℕ Refusal) (List Row)
take_up m rs t g =
    answered (found m rs t g) m rs
    (λ r. answered (asked (take_up_questions m r) (about_slot m r.slot) r) m rs
    (λ x. reply (Ok g) (at_time m t) (slice_set rs g (taken_up x))))

-- the grant g ends at the time t with n bytes sent
abbrev pub settle_questions : Core → Row → ℕ → List Question
settle_questions m r n =
    let s = stream m r.slot in
    q (is_open r.fate) reason.GrantEnded
    ∷ q (is_covered m r) reason.TablesDisagree
    ∷ q (nat_le n r.granted) reason.SentTooMuch
    ∷ q (nat_lt s.macroflow m.macroflows && all_fit ((s.reserved - r.granted) ∷ (s.outstanding + n) ∷ (s.charged + n) ∷ [])) reason.TablesDisagree
    ∷ []

-- what these questions leave known of the record s of the row's slot
pub record Settleable (m : Core) (r : Row) (n : ℕ) (s : Stream) : Type 0 where
  pub read : s ≡ stream m r.slot
  pub within : r.slot < 32
  pub covered : r.granted ≤ s.reserved
  pub outstanding_fits : s.outstanding + n < 2 ^ 63
  pub charged_fits : s.charged + n < 2 ^ 63

abbrev pub settle : Core → List Row → ℕ → ℕ → ℕ → Reply (Result (Unit {0}) Refusal) (List Row)
settle m rs t g n =
    answered (found m rs t g) m rs
    (λ r. answered (asked (settle_questions m r n) (about_slot m r.slot) (stream m r.slot)) m rs
    (λ s. reply (Ok tt) (put m t r.slot (settled s r.granted n t)) (slice_set rs g (settled_row r n t))))

-- a grant that is due at the time t expires
abbrev pub due : Core → List Row → ℕ → Option ℕ
due m rs t = first_least (is_due t) due_upto (issued_rows m rs)

abbrev pub expire_questions : Core → ℕ → ℕ → List Question
expire_questions m n t = q (n == m.capacity) reason.TablesDisagree ∷ q (timely m t) reason.NotTimely ∷ []

abbrev pub end_questions : Core → Row → List Question
end_questions m r =
    let s = stream m r.slot in
    q (is_covered m r) reason.TablesDisagree ∷ q (nat_lt s.macroflow m.macroflows && fits (s.reserved - r.granted)) reason.TablesDisagree ∷ []

-- what these questions leave known of the record s of the row's slot
pub record Endable (m : Core) (r : Row) (s : Stream) : Type 0 where
  pub read : s ≡ stream m r.slot
  pub within : r.slot < 32
  pub covered : r.granted ≤ s.reserved

abbrev pub expired_at : Core → List Row → ℕ → Option ℕ → Reply (Result (Option ℕ) Refusal) (List Row)
expired_at m rs t None = reply (Ok None) (at_time m t) rs
expired_at m rs t (Some g) =
    let r = row rs g in
    answered (asked (end_questions m r) (about_slot m r.slot) (stream m r.slot)) m rs
    (λ s. reply (Ok (Some g)) (put m t r.slot (expired s r.granted)) (slice_set rs g (expired_row r t)))

abbrev pub expire : Core → List Row → ℕ → Reply (Result (Option ℕ) Refusal) (List Row)
expire m rs t = answered (asked (expire_questions m (length rs) t) about_nothing (tt {0})) m rs (λ _. expired_at m rs t (due m rs t))
