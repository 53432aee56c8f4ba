-- What a poll answers, and what it leaves. Assumes nothing.
--   agrees k m x f        whether the scheduler x and the records tell the same slots waiting in the macroflow f
--   served k x i s        the scheduler after its pick of the slot i, whose record was s: lowered with the last request
--   issued_to m t i p     the core after the next grant, of p bytes, went to the slot i
--   granted …             the next grant goes to the slot that the scheduler picked
--   issued …              the questions of a poll that would issue, and then the pick
--   poll …                the questions of every poll; none waits; no fit; or a grant
use Rattle.std.specs.Prelude.{ℕ, ◌+◌, ◌-◌, Bool, cond, ◌&&◌, List, [], ◌∷◌, length, Some, None, Ok, Err, Option, Result, ◌==◌, nat_le, nat_lt, slice_index_or, slice_set}
use Rattle.std.specs.Bool.{beq}
use Rattle.meaning.specs.declared.refusal.Reason.TheVariants as reason
use Rattle.meaning.specs.declared.refusal.Refusal.{Refusal}
use Rattle.meaning.specs.Control.{Control}
use Rattle.meaning.specs.Scheduling.{Scheduling}
use Rattle.tables.specs.declared.core_state.Core.{Core}
use Rattle.tables.specs.declared.row.Row.{Row}
use Rattle.tables.specs.declared.stream.Stream.{Stream}
use Rattle.meaning.specs.Below.{all_below}
use Rattle.tables.specs.Numbers.{all_fit}
use Rattle.tables.specs.Streams.{waits_in, granted as granted-stream}
use Rattle.tables.specs.Rows.{open_row}
use Rattle.tables.specs.Core.{stream, timely, about_macroflow, at_time}
use Rattle.tables.specs.Sums.{load, someone_waits}
use Rattle.tables.specs.Replies.{Reply, reply, Question, q, asked, answered}
use Rattle.grant_calls.specs.declared.polling.Polled.{Polled}
use Rattle.grant_calls.specs.declared.polling.Polled.TheVariants.{NoneWaits, NoFit, Granted}

-- the answer to a poll, and the tables that it may change
abbrev pub PollReply : Type 0 → Type 0
PollReply S = Reply (Result Polled Refusal) (List S × List Row)

module _ {S : Type 0} (k : Scheduling S) where
  abbrev pub agrees : Core → S → ℕ → Bool
  agrees m x f = all_below 32 (λ i. beq (k.waits x i) (waits_in (stream m i) f))

  abbrev pub served : S → ℕ → Stream → S
  served x i s = cond (s.waiting == 1) (k.lowered (k.turned x) i) (k.turned x)

-- whether the slot i can get a grant of p bytes at the time t in the macroflow f
abbrev pub can_get : Core → ℕ → ℕ → ℕ → ℕ → Bool
can_get m i f t p =
    let s = stream m i in
    nat_lt i 32 && (waits_in s f && all_fit ((t + s.life) ∷ (s.waiting - 1) ∷ (s.reserved + p) ∷ []))

abbrev pub issued_to : Core → ℕ → ℕ → ℕ → Core
issued_to m t i p = record {
  streams = slice_set m.streams i (granted-stream (stream m i) p);
  macroflows = m.macroflows;
  capacity = m.capacity;
  issued = m.issued + 1;
  last = t;
}

module _ {S : Type 0} (k : Scheduling S) (m : Core) (ss : List S) (rs : List Row) (t f p : ℕ) where
  abbrev pub granted : S → Option ℕ → PollReply S
  granted x None = reply (Err (about_macroflow m None f reason.TablesDisagree)) m (ss, rs)
  granted x (Some i) =
      answered (asked (q (can_get m i f t p) reason.TablesDisagree ∷ []) (about_macroflow m None f) (stream m i)) m (ss, rs)
      (λ s. reply (Ok (Granted m.issued)) (issued_to m t i p) (slice_set ss f (served k x i s), slice_set rs m.issued (open_row i f p t (t + s.life))))

  abbrev pub issue_questions : S → List Question
  issue_questions x = q (nat_lt m.issued (length rs)) reason.LedgerFull ∷ q (agrees k m x f) reason.TablesDisagree ∷ []

  abbrev pub issued : PollReply S
  issued =
      let x = slice_index_or ss f k.spare in
      answered (asked (issue_questions x) (about_macroflow m None f) x) m (ss, rs) (λ y. granted y (k.chosen y))

abbrev pub poll_questions : Core → ℕ → ℕ → ℕ → ℕ → ℕ → List Question
poll_questions m controllers schedulers rows t f =
    q (controllers == m.macroflows && (schedulers == m.macroflows && rows == m.capacity)) reason.TablesDisagree
    ∷ q (timely m t) reason.NotTimely
    ∷ q (nat_lt f m.macroflows) reason.NoSuchMacroflow
    ∷ []

module _ {C S : Type 0} (c : Control C) (k : Scheduling S) where
  abbrev pub poll : Core → List C → List S → List Row → ℕ → ℕ → PollReply S
  poll m cs ss rs t f =
      let y = slice_index_or cs f c.spare in
      answered (asked (poll_questions m (length cs) (length ss) (length rs) t f) (about_macroflow m None f) (tt {0})) m (ss, rs)
      (λ _. cond (someone_waits m f)
      (cond (nat_le (load m f + c.packet y) (c.allowance y))
      (issued k m ss rs t f (c.packet y))
      (reply (Ok NoFit) (at_time m t) (ss, rs)))
      (reply (Ok NoneWaits) (at_time m t) (ss, rs)))
