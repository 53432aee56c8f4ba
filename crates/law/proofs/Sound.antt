-- No call finds the tables at odds: no answer is refusal 1.
--   Sure          where those before it are answered 'yes', each question numbered 1 is
--   never_one     such questions are never answered by refusal 1
--   held          an open grant's bytes are among those that its slot holds
--   covered       its slot is open, with open bytes covering it
--   even          no answer is refusal 1
use Rattle.std.proofs.Common.{◌≡◌, ℕ, zero, suc, ◌+◌, ◌<◌, ◌≤◌, Bool, true, false, cond, ◌&&◌, eqb, ltb, leb, List, [], ◌∷◌, length, Some, None, Ok, Err, sym, refl, ap, ◌∙◌, ⊎_elim, arith}
use Rattle.std.specs.Cmp.{booleans_Decides}
use Rattle.std.proofs.lemmas.Bool.{cond-true, cases_Bool, ltb-true, lt-ltb, leb-true, le-leb, eq-eqb, eqb-true, and_parts, and_from, true≢false, true_from_ne_false}
use Rattle.meaning.specs.declared.refusal.Reason.{Reason}
use Rattle.meaning.specs.Below.{all_below}
use Rattle.meaning.specs.Control.{ControlLaws}
use Rattle.meaning.specs.Scheduling.{SchedulingLaws}
use Rattle.meaning.proofs.AnyBelow.{any_below_some}
use Rattle.tables.specs.declared.stream.Stream.{Stream}
use Rattle.tables.specs.Streams as stream
use Rattle.tables.specs.Rows.{is_open}
use Rattle.meaning.specs.Refusals.{number}
use Rattle.tables.specs.Core.{about_slot, about_macroflow, at_time, put}
use Rattle.tables.specs.Core as core
use Rattle.tables.specs.Sums as sums
use Rattle.tables.specs.Replies.{Question}
use Rattle.grant_calls.specs.Polls as polls
use Rattle.grant_calls.specs.Polls.{PollReply, served, issued_to}
use Rattle.grant_calls.specs.Grants as grants
use Rattle.grant_calls.specs.Grants.{row}
use Rattle.manager.specs.declared.call.Call.{Call}
use Rattle.manager.specs.declared.call.Call.TheVariants.{Open, Request, Poll, TakeUp, Settle, Expire, Report, Move, Merge, Close}
use Rattle.manager.specs.Answers.{Answer}
use Rattle.manager.specs.State.{State}
use Rattle.manager.specs.Steps.{Stepped, of_poll, step}
use Rattle.law.specs.Effects.{SlotEvent}
use Rattle.law.specs.Effects.Booking.{Granted}
use Rattle.law.specs.Effects.SlotEvent.{Booked}
use Rattle.law.specs.History.{History, of_slot, ends, issued, booked, not_ended, sum_of, open_bytes}
use Rattle.law.proofs.Ways.{by_test, Passes, Refuses}
use Rattle.law.proofs.Calls.{open_cases, request_cases, take_up_cases, settle_cases, expire_cases, report_cases, move_cases, merge_cases, close_cases}
use Rattle.law.proofs.SlotFacts.{SlotKept, waits_is}
use Rattle.law.proofs.Ledger.{flag, bytes_issued}
use Rattle.law.proofs.Kept.{Host, Kept}
use Rattle.law.proofs.Streaming.{is_there}
use Rattle.law.proofs.Reporting.{charged_most, outstanding_most}
use Rattle.law.proofs.Granting.{found_due}
use Rattle.law.proofs.Polling.{control_at, sched_at, packet_at, first_questions, NoPick, poll_cases}

abbrev pub is_one : Answer → Bool
is_one (Ok t) = false
is_one (Err e) = eqb (number e.reason) 1

abbrev SureAt : Bool → Type 0 → Type 0 → Type 0
SureAt true holds rest = holds × rest
SureAt false holds rest = holds → rest

abbrev Sure : List Question → Type 0
Sure [] = Unit {0}
Sure (x ∷ xs) = SureAt (eqb (number x.reason) 1) (x.holds ≡ true) (Sure xs)

never_one : (qs : List Question) → Sure qs → (n : Reason) → Refuses qs n → eqb (number n) 1 ≡ false
unfolding Refuses
never_one [] sure n w = absurd w
never_one (x ∷ xs) sure n w =
    by_test (eqb (number x.reason) 1) (λ b. SureAt b (x.holds ≡ true) (Sure xs) → eqb (number n) 1 ≡ false)
    (λ one both. ⊎_elim (λ no. absurd (true≢false (sym both.0 ∙ no.0))) (λ rest. never_one xs both.1 n rest.1) w)
    (λ other then. ⊎_elim (λ no. ap (λ r. eqb (number r) 1) (sym no.1) ∙ other) (λ rest. never_one xs (then rest.0) n rest.1) w)
    sure

all_from : (n : ℕ) (p : ℕ → Bool) → ((i : ℕ) → i < n → p i ≡ true) → all_below n p ≡ true
unfolding all_below
all_from zero p h = refl
all_from (suc n) p h = and_from _ _ (all_from n p (λ i l. h i (omega arith))) (h n (omega arith))

-- the bytes of a grant that has not ended are open
among_open : (h : History) (g : ℕ) → ends h g ≡ 0 → (es : List SlotEvent) → bytes_issued g es ≤ sum_of (booked (not_ended h)) es
among_open h g e [] = omega arith
among_open h g e (Booked (Granted f k b) ∷ es) =
    let here : cond (eqb k g) b 0 ≤ cond (eqb (ends h k) 0) b 0 =
    grind (arith, e, cases_Bool (eqb k g), eqb-true k g, eq-eqb (ends h k) 0) in
    omega (arith, among_open h g e es)
among_open h g e (_ ∷ es) = omega (arith, among_open h g e es)

module _ {C S : Type 0} (H : Host C S) (c-laws : ControlLaws H.control) (laws : SchedulingLaws 32 H.scheduling) (few : H.rows ≤ 65536) (h : History) (s : State C S) (K : Kept H h s) where
  abbrev m : Rattle.tables.specs.declared.core_state.Core.Core
  m = s.core

  abbrev at_slot : ℕ → Stream
  at_slot i = core.stream m i

  slot : (i : ℕ) → i < 32 → SlotKept H.macroflows (at_slot i) (of_slot h i)
  slot i l = K.streams.slots i l

  -- the lists have the lengths given at making
  pub schedulers_right : eqb (length s.schedulers) m.macroflows ≡ true
  schedulers_right = eq-eqb _ _ (K.parts.schedulers_size ∙ sym K.macroflows_is)

  pub controllers_right : eqb (length s.controllers) m.macroflows ≡ true
  controllers_right = eq-eqb _ _ (K.parts.controllers_size ∙ sym K.macroflows_is)

  pub rows_right : eqb (length s.rows) m.capacity ≡ true
  rows_right = eq-eqb _ _ (K.ledger.size ∙ sym K.capacity_is)

  pub tables_right : (eqb (length s.controllers) m.macroflows && (eqb (length s.schedulers) m.macroflows && eqb (length s.rows) m.capacity)) ≡ true
  tables_right = and_from _ _ controllers_right (and_from _ _ schedulers_right rows_right)

  -- the macroflow of an open slot exists
  placed_right : (i : ℕ) → ltb i 32 ≡ true → (at_slot i).opened ≡ true → ltb (at_slot i).macroflow m.macroflows ≡ true
  placed_right i near on = lt-ltb _ _ (omega (arith, is_there H laws h s K i (ltb-true i 32 near) on, K.macroflows_is))

  pub reserved_is : (i : ℕ) → i < 32 → (at_slot i).reserved ≡ open_bytes h i
  reserved_is i l = omega (arith, (slot i l).reserved_is, K.ledger.open_is i)

  reserved_most : (i : ℕ) → i < 32 → (at_slot i).reserved ≤ 589824000
  reserved_most i l = omega (arith, (slot i l).reserved_is, K.ledger.bounded i, K.ledger.room)

  -- an open grant's bytes are among those that its slot holds
  held : (g : ℕ) → g < issued h → is_open (row s.rows g).fate ≡ true → (row s.rows g).granted ≤ (at_slot (row s.rows g).slot).reserved
  held g l live =
      let G = K.ledger.grants g l in
      let i = (row s.rows g).slot in
      let one : flag (is_open (row s.rows g).fate) ≡ 1 = ap flag live in
      let none : ends h g ≡ 0 = let o = G.once in omega arith in
      let own : bytes_issued g (of_slot h i) ≡ (row s.rows g).granted = G.went i ∙ cond-true _ _ _ (eq-eqb i i refl) in
      omega (arith, among_open h g none (of_slot h i), reserved_is i G.within)

  -- so its slot is open
  live_open : (g : ℕ) → g < issued h → is_open (row s.rows g).fate ≡ true → (at_slot (row s.rows g).slot).opened ≡ true
  live_open g l live =
      let G = K.ledger.grants g l in
      let old = slot (row s.rows g).slot G.within in
      true_from_ne_false _ (λ off. let none = old.unreserved (sym old.opened_is ∙ off) in let some = held g l live in let least = G.least in omega arith)

  covered : (g : ℕ) → g < issued h → is_open (row s.rows g).fate ≡ true → grants.is_covered m (row s.rows g) ≡ true
  covered g l live =
      search (and_from, lt-ltb, le-leb, (K.ledger.grants g l).within, live_open g l live, held g l live)

  -- its slot's numbers fit
  ending_fits : (g : ℕ) → g < issued h → is_open (row s.rows g).fate ≡ true → ltb (at_slot (row s.rows g).slot).macroflow m.macroflows ≡ true
  ending_fits g l live = placed_right _ (lt-ltb _ 32 (K.ledger.grants g l).within) (live_open g l live)

  -- a grant that was issued
  issued_there : (g : ℕ) → (ltb g m.issued && ltb g (length s.rows)) ≡ true → g < issued h
  issued_there g e = omega (arith, ltb-true g m.issued (and_parts _ _ e).0, K.issued_is)

  -- the scheduler of a macroflow has those waiting who wait by the records
  pub waits_right : (f i : ℕ) → f < H.macroflows → i < 32 → H.scheduling.waits (sched_at H s 0 f) i ≡ stream.waits_in (at_slot i) f
  waits_right f i there l = ap (λ x. H.scheduling.waits x i) (K.parts.schedules f there) ∙ K.waiting f i there ∙ sym (waits_is (slot i l) f)

  pub agrees_right : (f : ℕ) → f < H.macroflows → polls.agrees H.scheduling m (sched_at H s 0 f) f ≡ true
  agrees_right f there = all_from 32 _ (λ i l. (booleans_Decides _ _).1 (waits_right f i there l))

  -- the slot that is picked can get the grant
  pub can_get_right : (t f i : ℕ) → f < H.macroflows → t ≤ 1000000000000000 → H.scheduling.chosen (sched_at H s t f) ≡ Some i → (i < 32) × (polls.can_get m i f t (packet_at H s t f) ≡ true)
  can_get_right t f i there time e =
      let on = laws.pick_waits (sched_at H s t f) i e in
      let near = laws.waits_below (sched_at H s t f) i on in
      let waits : stream.waits_in (at_slot i) f ≡ true = sym (waits_right f i there near) ∙ on in
      let old = slot i near in
      let opened = sym old.opened_is ∙ (and_parts (at_slot i).opened _ waits).0 in
      let lasts = old.life opened in
      let few-waiting = old.few in
      let reserved = reserved_most i near in
      let packet = c-laws.packet_most (control_at H s t f) in (
        near,
        search (arith, and_from, lt-ltb, near, waits),
      )

  -- somebody is picked where somebody waits
  pub somebody_picked : (t f : ℕ) → f < H.macroflows → sums.someone_waits m f ≡ true → H.scheduling.chosen (sched_at H s t f) ≡ None → ⊥
  somebody_picked t f there someone none =
      let one = any_below_some 32 (λ i. stream.waits_in (at_slot i) f) someone in
      true≢false (sym (waits_right f one.0 there one.1 ∙ one.2) ∙ laws.pick_absent (sched_at H s t f) none one.0)

  -- so a scheduler is never at odds where somebody waits
  pub never_stuck : (t f : ℕ) → f < H.macroflows → t ≤ 1000000000000000 → sums.someone_waits m f ≡ true → NoPick H s t f → ⊥
  never_stuck t f there time someone stuck =
      ⊎_elim
      (λ none. somebody_picked t f there someone none)
      (λ w. let no : polls.can_get m w.0 f t (packet_at H s t f) ≡ false = w.2 in true≢false (sym (can_get_right t f w.0 there time w.1).1 ∙ no))
      stuck

  abbrev Even : Stepped C S → Type 0
  Even o = is_one o.answer ≡ false

  pub even : (c : Call) → Even (step H.control H.scheduling s c)
  even (Open t i f w l) = open_cases H.control H.scheduling s Even t i f w l (never_one _ (λ _ _ _ _ _. tt)) (λ _. refl)
  even (Request t i) = request_cases H.control H.scheduling s Even t i (never_one _ (schedulers_right, λ _ near on _. (placed_right i near on, tt))) (λ _. refl)
  even (Poll t f) =
      let in_time : Passes (first_questions H s t f) → t ≤ 1000000000000000 = λ p. leb-true t 1000000000000000 (and_parts (leb m.last t) _ p.1.0).1 in
      let there : Passes (first_questions H s t f) → f < H.macroflows = λ p. omega (arith, ltb-true f _ p.1.1.0, K.macroflows_is) in
      poll_cases H s t f (λ r. Even (of_poll s r)) (never_one _ (tables_right, λ _ _. tt))
      (λ p someone. never_one _ (λ _. (agrees_right f (there p), tt)))
      (λ p someone stuck. absurd (never_stuck t f (there p) (in_time p) someone stuck))
      (λ _. refl) (λ _. refl) (λ i I. refl)
  even (TakeUp t g) =
      take_up_cases H.control H.scheduling s Even t g (never_one _ (rows_right, λ _ _. tt))
      (λ p. never_one _ (λ live. (covered g (issued_there g p.1.1.0) live, λ _. tt)))
      (λ _ _. refl)
  even (Settle t g n) =
      let x = row s.rows g in
      let y = at_slot x.slot in
      settle_cases H.control H.scheduling s Even t g n (never_one _ (rows_right, λ _ _. tt))
      (λ p.
      let l = issued_there g p.1.1.0 in
      let near = (K.ledger.grants g l).within in
      let size = (K.ledger.grants g l).most in
      let charged = charged_most H laws few h s K x.slot near in
      let out = outstanding_most H laws few h s K x.slot near in
      let reserved = reserved_most x.slot near in
      never_one _ (λ live. (
        covered g l live,
        λ enough.
            let sent = leb-true n x.granted enough in
            (search (arith, and_from, lt-ltb, ending_fits g l live), tt),
      )))
      (λ _ _. refl)
  even (Expire t) =
      expire_cases H.control H.scheduling s Even t (never_one _ (rows_right, λ _. tt)) refl
      (λ g due.
      let x = row s.rows g in
      let found = found_due H laws h s K t g due in
      let reserved = reserved_most x.slot (K.ledger.grants g found.0).within in
      never_one _ (covered g found.0 found.1, (search (arith, and_from, lt-ltb, ending_fits g found.0 found.1), tt)))
      (λ g due _. refl)
  even (Report t i b) =
      let x = at_slot i in
      report_cases H.control H.scheduling s Even t i b
      (never_one _ (
        controllers_right,
        λ _ near on _ enough _.
            let l = ltb-true i 32 near in
            let most = charged_most H laws few h s K i l in
            let balance = (slot i l).balance in
            let reported = leb-true (b.received + b.lost) x.outstanding enough in
            (search (arith, and_from, lt-ltb, placed_right i near on), tt),
      ))
      (λ _. refl)
  even (Move t i f) = move_cases H.control H.scheduling s Even t i f (never_one _ (schedulers_right, λ _ near _ on _. (placed_right i near on, tt))) (λ _. refl)
  even (Merge t a b) = merge_cases H.control H.scheduling s Even t a b (never_one _ (schedulers_right, λ _ _ _ _. tt)) (λ _. refl)
  even (Close t i) =
      close_cases H.control H.scheduling s Even t i
      (never_one _ (
        schedulers_right,
        λ _ near on _.
            let l = ltb-true i 32 near in
            (placed_right i near on, (search (arith, and_from, lt-ltb, charged_most H laws few h s K i l, (slot i l).balance), tt)),
      ))
      (λ _. refl)
