-- What the calls about one stream answer, and what they leave. Assumes nothing.
-- For each call: its questions, in order, and then the call itself.
use Rattle.std.specs.Prelude.{◌≡◌, ℕ, ◌+◌, ◌-◌, ◌^◌, ◌<◌, ◌≤◌, Bool, true, cond, not, ◌&&◌, List, [], ◌∷◌, length, Some, Ok, Option, Result, ◌==◌, nat_le, nat_lt}
use Rattle.least.specs.Order.{first_least}
use Rattle.meaning.specs.declared.refusal.Reason.TheVariants as reason
use Rattle.meaning.specs.declared.refusal.Refusal.{Refusal}
use Rattle.meaning.specs.declared.report.Report.{Report}
use Rattle.meaning.specs.Control.{Control}
use Rattle.meaning.specs.Reports.{sample_fits}
use Rattle.meaning.specs.Scheduling.{Scheduling}
use Rattle.tables.specs.declared.core_state.Core.{Core}
use Rattle.tables.specs.declared.stream.Stream.{Stream}
use Rattle.tables.specs.Numbers.{all_fit}
use Rattle.tables.specs.Streams.{opened, requested, reported, moved, closed, is_open, quiet_upto}
use Rattle.tables.specs.Core.{stream, timely, about_slot, about_macroflow, put}
use Rattle.tables.specs.Sums.{flight}
use Rattle.tables.specs.Replies.{Reply, reply, Question, q, asked, answered}
use Rattle.stream_calls.specs.declared.reporting.Feedback.{Feedback}
use Rattle.stream_calls.specs.Lists.{raised_in, lowered_in, told_in}

-- the answer of a call that tells nothing but that it was accepted
abbrev pub Done : Type 0
Done = Result (Unit {0}) Refusal

-- the slot i is opened at the time t in the macroflow f, with the weight w and the life l
abbrev pub open_questions : Core → ℕ → ℕ → ℕ → ℕ → ℕ → List Question
open_questions m t i f w l =
    q (timely m t) reason.NotTimely
    ∷ q (nat_lt i 32) reason.NoSuchSlot
    ∷ q (nat_lt f m.macroflows) reason.NoSuchMacroflow
    ∷ q (not (stream m i).opened) reason.AlreadyOpen
    ∷ q ((nat_le 1 w && nat_le w 8) && (nat_le 1 l && nat_le l 60000000)) reason.WeightOrLife
    ∷ []

abbrev pub «open» : Core → ℕ → ℕ → ℕ → ℕ → ℕ → Reply Done (Unit {0})
«open» m t i f w l =
    answered (asked (open_questions m t i f w l) (about_macroflow m (Some i) f) (stream m i)) m tt
    (λ s. reply (Ok tt) (put m t i (opened s f w l t)) tt)

-- the stream of the slot i asks at the time t for a grant; its scheduler is one of k
abbrev pub request_questions : Core → ℕ → ℕ → ℕ → List Question
request_questions m k t i =
    q (k == m.macroflows) reason.TablesDisagree
    ∷ q (timely m t) reason.NotTimely
    ∷ q (nat_lt i 32) reason.NoSuchSlot
    ∷ q (stream m i).opened reason.NotOpen
    ∷ q (nat_lt (stream m i).waiting 255) reason.TooManyWaiting
    ∷ q (nat_lt (stream m i).macroflow m.macroflows) reason.TablesDisagree
    ∷ []

abbrev pub request : {S : Type 0} → Scheduling S → Core → List S → ℕ → ℕ → Reply Done (List S)
request k m ss t i =
    answered (asked (request_questions m (length ss) t i) (about_slot m i) (stream m i)) m ss
    (λ s. reply (Ok tt) (put m t i (requested s t)) (cond (s.waiting == 0) (raised_in k ss s.macroflow i s.weight) ss))

-- question 14: whether the mode and the sample are in range
abbrev pub is_known : Feedback → Bool
is_known b = nat_le b.mode 3 && sample_fits b.sample

-- question 15: whether no more is reported than the o bytes outstanding
abbrev pub is_covered : Feedback → ℕ → Bool
is_covered b o = nat_le (b.received + b.lost) o

-- question 16: whether the amounts fit the mode, with o bytes outstanding
abbrev pub mode_fits : Feedback → ℕ → Bool
mode_fits b o =
    cond (b.mode == 0) (b.lost == 0)
    (cond (b.mode == 1) (nat_le 1 b.lost)
    (cond (b.mode == 3) (b.received == 0 && (b.lost == o && nat_le 1 b.lost)) true))

-- whether the record could hold what a report would write into it
abbrev pub report_fits : Stream → Feedback → Bool
report_fits s b = all_fit ((s.outstanding - (b.received + b.lost)) ∷ (s.received + b.received) ∷ (s.lost + b.lost) ∷ [])

-- the stream of the slot i reports at the time t; its controller is one of k
abbrev pub report_questions : Core → ℕ → ℕ → ℕ → Feedback → List Question
report_questions m k t i b =
    let s = stream m i in
    q (k == m.macroflows) reason.TablesDisagree
    ∷ q (timely m t) reason.NotTimely
    ∷ q (nat_lt i 32) reason.NoSuchSlot
    ∷ q s.opened reason.NotOpen
    ∷ q (is_known b) reason.ModeOrSample
    ∷ q (is_covered b s.outstanding) reason.NotOutstanding
    ∷ q (mode_fits b s.outstanding) reason.ModeUnfit
    ∷ q (nat_lt s.macroflow m.macroflows && report_fits s b) reason.TablesDisagree
    ∷ []

-- what these questions leave known of the stream's record s
pub record Reportable (m : Core) (k i : ℕ) (b : Feedback) (s : Stream) : Type 0 where
  pub read : s ≡ stream m i
  pub within : i < 32
  pub exists : s.macroflow < k
  pub covered : b.received + b.lost ≤ s.outstanding
  pub received_fits : s.received + b.received < 2 ^ 63
  pub lost_fits : s.lost + b.lost < 2 ^ 63

-- what the controller of the macroflow f hears
abbrev pub heard : Core → ℕ → ℕ → Feedback → Report
heard m f t b = record { received = b.received; lost = b.lost; mode = b.mode; sample = b.sample; flight = flight m f; time = t }

abbrev pub report : {C : Type 0} → Control C → Core → List C → ℕ → ℕ → Feedback → Reply Done (List C)
report k m cs t i b =
    answered (asked (report_questions m (length cs) t i b) (about_slot m i) (stream m i)) m cs
    (λ s. reply (Ok tt) (put m t i (reported s b.received b.lost t)) (told_in k cs s.macroflow (heard m s.macroflow t b)))

-- the stream of the slot i is closed at the time t
abbrev pub close_questions : Core → ℕ → ℕ → ℕ → List Question
close_questions m k t i =
    let s = stream m i in
    q (k == m.macroflows) reason.TablesDisagree
    ∷ q (timely m t) reason.NotTimely
    ∷ q (nat_lt i 32) reason.NoSuchSlot
    ∷ q s.opened reason.NotOpen
    ∷ q (s.reserved == 0) reason.OpenBytes
    ∷ q (nat_lt s.macroflow m.macroflows) reason.TablesDisagree
    ∷ q (all_fit ((s.abandoned + s.outstanding) ∷ [])) reason.TablesDisagree
    ∷ []

abbrev pub close : {S : Type 0} → Scheduling S → Core → List S → ℕ → ℕ → Reply Done (List S)
close k m ss t i =
    answered (asked (close_questions m (length ss) t i) (about_slot m i) (stream m i)) m ss
    (λ s. reply (Ok tt) (put m t i (closed s)) (lowered_in k ss s.macroflow i))

-- the stream of the slot i goes to the macroflow f at the time t
abbrev pub move_questions : Core → ℕ → ℕ → ℕ → ℕ → List Question
move_questions m k t i f =
    let s = stream m i in
    q (k == m.macroflows) reason.TablesDisagree
    ∷ q (timely m t) reason.NotTimely
    ∷ q (nat_lt i 32) reason.NoSuchSlot
    ∷ q (nat_lt f m.macroflows) reason.NoSuchMacroflow
    ∷ q s.opened reason.NotOpen
    ∷ q (not (s.macroflow == f)) reason.SameMacroflow
    ∷ q (nat_lt s.macroflow m.macroflows) reason.TablesDisagree
    ∷ []

-- a slot that waits is lowered in the scheduler of the macroflow it leaves, and raised in that of the one it comes to
abbrev pub passed_on : {S : Type 0} → Scheduling S → List S → ℕ → ℕ → Stream → List S
passed_on k ss i f s = cond (nat_lt 0 s.waiting) (raised_in k (lowered_in k ss s.macroflow i) f i s.weight) ss

abbrev pub move_to : {S : Type 0} → Scheduling S → Core → List S → ℕ → ℕ → ℕ → Reply Done (List S)
move_to k m ss t i f =
    answered (asked (move_questions m (length ss) t i f) (about_macroflow m (Some i) f) (stream m i)) m ss
    (λ s. reply (Ok tt) (put m t i (moved s f)) (passed_on k ss i f s))

-- the record of the slot i
abbrev pub standing : Core → ℕ → Result Stream Refusal
standing m i = asked (q (nat_lt i 32) reason.NoSuchSlot ∷ []) (about_slot m i) (stream m i)

-- the open slot that has been quiet for longest
abbrev pub quietest : Core → Option ℕ
quietest m = first_least is_open quiet_upto m.streams
