-- Polls keep what the manager holds in step with the history.
--   Issuing       what is so where a poll issues a grant to a slot
--   poll_cases    a poll is refused, or none waits, or no packet fits, or it issues
--   poll_ways     the same, whatever it is refused for
--   next_poll     a poll
use Rattle.std.proofs.Common.{◌≡◌, ℕ, ◌+◌, ◌-◌, ◌<◌, Bool, true, false, cond, ◌&&◌, eqb, ltb, leb, ◌⊎◌, List, [], ◌∷◌, length, get_or, set, Some, None, Ok, Err, Option, sym, refl, ap, ◌∙◌, subst, ap₂, inl, inr, ⊎_elim, arith}
use Rattle.std.proofs.lemmas.List.{length-set}
use Rattle.std.proofs.lemmas.Bool.{eq-eqb, ne_eqb, eqb-true, eqb-false, ltb-true, lt-ltb, le-ltb, and_parts, cond_both}
use Rattle.meaning.specs.declared.refusal.Reason.{Reason}
use Rattle.meaning.specs.declared.refusal.Reason.TheVariants as reason
use Rattle.meaning.specs.Control.{ControlLaws}
use Rattle.meaning.specs.Scheduling.{SchedulingLaws}
use Rattle.tables.specs.declared.row.Row.{Row}
use Rattle.tables.specs.declared.stream.Stream.{Stream}
use Rattle.tables.specs.Streams as stream
use Rattle.tables.specs.Rows.{open_row}
use Rattle.tables.specs.Core.{timely, about_macroflow, at_time}
use Rattle.tables.specs.Core as core
use Rattle.tables.specs.Sums as sums
use Rattle.tables.specs.Replies.{reply, Question, q}
use Rattle.grant_calls.specs.declared.polling.Polled.TheVariants as poll
use Rattle.grant_calls.specs.Polls as polls
use Rattle.grant_calls.specs.Polls.{PollReply, served, issued_to}
use Rattle.manager.specs.declared.call.Call.TheVariants.{Poll}
use Rattle.manager.specs.State.{State, state}
use Rattle.manager.specs.Steps.{of_poll, step}
use Rattle.law.specs.Effects.{SlotEvent, bytes_of}
use Rattle.law.specs.Effects.Booking.{Granted}
use Rattle.law.specs.Effects.SlotEvent.{Booked}
use Rattle.law.specs.Effects.Effect.{AtSlot}
use Rattle.law.specs.History.{History, issued, changed}
use Rattle.law.proofs.Ways.{at_set, Refuses, Passes, answered_cases}
use Rattle.law.proofs.SlotFacts.{kept_granted}
use Rattle.law.proofs.Changes.{changed_same}
use Rattle.law.proofs.Ledger.{ledger_granted}
use Rattle.law.proofs.Kept.{Host, streams_at, scheduler_of, Kept, controller_still, scheduler_at}
use Rattle.law.proofs.Streaming.{Next, kept_with, kept_nothing, kept_passed}
use Rattle.law.proofs.Granting.{slot_set, bytes_set}

module _ {C S : Type 0} (H : Host C S) (s : State C S) (t f : ℕ) where
  -- the controller and the scheduler of the macroflow f, and its packet
  abbrev pub control_at : C
  control_at = get_or s.controllers f H.control.spare

  abbrev pub sched_at : S
  sched_at = get_or s.schedulers f H.scheduling.spare

  abbrev pub packet_at : ℕ
  packet_at = H.control.packet control_at

  abbrev pub fits_at : Bool
  fits_at = leb (sums.load s.core f + packet_at) (H.control.allowance control_at)

  pub record Issuing (i : ℕ) : Type 0 where
    pub in_order : timely s.core t ≡ true
    pub exists : f < s.core.macroflows
    pub someone : sums.someone_waits s.core f ≡ true
    pub fits : fits_at ≡ true
    pub free : s.core.issued < length s.rows
    pub chosen : H.scheduling.chosen sched_at ≡ Some i
    pub near : i < 32
    pub waits : stream.waits_in (core.stream s.core i) f ≡ true

  -- what the poll leaves that issues to the slot i
  abbrev pub issued_reply : ℕ → PollReply S
  issued_reply i =
      let m = s.core in
      let x = core.stream m i in
      reply (Ok (poll.Granted m.issued)) (issued_to m t i packet_at) (set s.schedulers f (served H.scheduling sched_at i x), set s.rows m.issued (open_row i f packet_at t (t + x.life)))

  abbrev pub first_questions : List Question
  first_questions = polls.poll_questions s.core (length s.controllers) (length s.schedulers) (length s.rows) t f

  abbrev pub later_questions : List Question
  later_questions = polls.issue_questions H.scheduling s.core s.schedulers s.rows t f packet_at sched_at

  -- no slot is picked, or one that cannot get the grant
  abbrev pub NoPick : Type 0
  NoPick = (H.scheduling.chosen sched_at ≡ None) ⊎ ((i : ℕ) × (H.scheduling.chosen sched_at ≡ Some i) × (polls.can_get s.core i f t packet_at ≡ false))

  module _ (P : PollReply S → Type 0) where
    abbrev pub Refusing : Reason → Type 0
    Refusing n = P (reply (Err (about_macroflow s.core None f n)) s.core (s.schedulers, s.rows))

    granted_cases : (o : Option ℕ) → H.scheduling.chosen sched_at ≡ o → (NoPick → Refusing reason.TablesDisagree)
        → ((i : ℕ) → H.scheduling.chosen sched_at ≡ Some i → polls.can_get s.core i f t packet_at ≡ true → P (issued_reply i))
        → P (polls.granted H.scheduling s.core s.schedulers s.rows t f packet_at sched_at o)
    unfolding Refuses
    granted_cases None e nay yea = nay (inl e)
    granted_cases (Some i) e nay yea =
        answered_cases P _ _ (q (polls.can_get s.core i f t packet_at) reason.TablesDisagree ∷ []) _ _ _
        (λ n w. ⊎_elim (λ no. subst Refusing no.1 (nay (inr (i, e, no.0)))) (λ rest. absurd rest.1) w)
        (λ c. yea i e c.0)

    -- the poll is refused at once, or once it should issue, or its scheduler is at odds, or none waits, or no packet fits, or it issues
    pub poll_cases : ((n : Reason) → Refuses first_questions n → Refusing n)
        → (Passes first_questions → sums.someone_waits s.core f ≡ true → (n : Reason) → Refuses later_questions n → Refusing n)
        → (Passes first_questions → sums.someone_waits s.core f ≡ true → NoPick → Refusing reason.TablesDisagree)
        → (sums.someone_waits s.core f ≡ false → P (reply (Ok poll.NoneWaits) (at_time s.core t) (s.schedulers, s.rows)))
        → (fits_at ≡ false → P (reply (Ok poll.NoFit) (at_time s.core t) (s.schedulers, s.rows)))
        → ((i : ℕ) → Issuing i → P (issued_reply i))
        → P (polls.poll H.control H.scheduling s.core s.controllers s.schedulers s.rows t f)
    poll_cases first later no_pick none full yea =
        let m = s.core in
        let d = H.scheduling in
        let ss = s.schedulers in
        let rs = s.rows in
        answered_cases P _ _ first_questions _ _ _ first
        (λ p.
        cond_both (sums.someone_waits m f) _ _ P
        (λ someone.
        cond_both fits_at _ _ P
        (λ fits.
        answered_cases P _ _ later_questions _ _ _ (later p someone)
        (λ c.
        granted_cases (d.chosen sched_at) refl (no_pick p someone)
        (λ i e ok.
        let can = and_parts (ltb i 32) _ ok in
        yea i (record {
          in_order = p.1.0;
          exists = ltb-true f _ p.1.1.0;
          someone = someone;
          fits = fits;
          free = ltb-true _ _ c.0;
          chosen = e;
          near = ltb-true i 32 can.0;
          waits = (and_parts (stream.waits_in (core.stream m i) f) _ can.1).0;
        }))))
        full)
        none)

    -- the same, whatever it is refused for
    pub poll_ways : ((n : Reason) → Refusing n) → P (reply (Ok poll.NoneWaits) (at_time s.core t) (s.schedulers, s.rows)) → P (reply (Ok poll.NoFit) (at_time s.core t) (s.schedulers, s.rows))
        → ((i : ℕ) → Issuing i → P (issued_reply i)) → P (polls.poll H.control H.scheduling s.core s.controllers s.schedulers s.rows t f)
    poll_ways nay none full yea = poll_cases (λ n _. nay n) (λ _ _ n _. nay n) (λ _ _ _. nay reason.TablesDisagree) (λ _. none) (λ _. full) yea

module _ {C S : Type 0} (H : Host C S) (c-laws : ControlLaws H.control) (laws : SchedulingLaws 32 H.scheduling) (h : History) (s : State C S) (K : Kept H h s) where
  abbrev at_slot : ℕ → Stream
  at_slot i = core.stream s.core i

  module _ (t f i : ℕ) (I : Issuing H s t f i) where
    there : f < H.macroflows
    there = omega (arith, I.exists, K.macroflows_is)

    waits_parts : ((at_slot i).opened ≡ true) × ((at_slot i).macroflow ≡ f) × (0 < (at_slot i).waiting)
    waits_parts =
        let a = and_parts (at_slot i).opened _ I.waits in
        let b = and_parts (eqb (at_slot i).macroflow f) _ a.1 in
        (a.0, eqb-true _ f b.0, ltb-true 0 _ b.1)

    -- the grant with the number g
    abbrev issued_state : ℕ → State C S
    issued_state g =
        let m = s.core in
        let x = at_slot i in
        let p = packet_at H s t f in
        state (record { streams = set m.streams i (stream.granted x p); macroflows = m.macroflows; capacity = m.capacity; issued = g + 1; last = t })
        s.controllers (set s.schedulers f (served H.scheduling (sched_at H s t f) i x)) (set s.rows g (open_row i f p t (t + x.life)))

    abbrev booked_as : ℕ → ℕ → ℕ → History
    booked_as j g p = AtSlot t j (Booked (Granted f g p)) ∷ h

    sched_now : (g : ℕ) → g < H.macroflows → get_or (set s.schedulers f (served H.scheduling (sched_at H s t f) i (at_slot i))) g H.scheduling.spare ≡ scheduler_of H (booked_as i (issued h) (packet_at H s t f)) g
    sched_now g l =
        let d = H.scheduling in
        let x = at_slot i in
        let parts = waits_parts in
        let p = packet_at H s t f in
        let old = K.streams.slots i I.near in
        let new = kept_granted old f (issued h) p (sym old.opened_is ∙ parts.0) parts.2 in
        let after : stream.waits_in (stream.granted x p) f ≡ ltb 0 (x.waiting - 1) = ap₂ (λ a b. a && (b && ltb 0 (x.waiting - 1))) parts.0 (eq-eqb _ f parts.1) in
        let turned-is : d.turned (sched_at H s t f) ≡ d.turned (scheduler_of H h f) = ap d.turned (K.parts.schedules f there) in
        let own : served d (sched_at H s t f) i x ≡ changed d (d.turned (scheduler_of H h f)) i x.weight (stream.waits_in x f) (stream.waits_in (stream.granted x p) f) =
        ap (λ y. cond (eqb x.waiting 1) (d.lowered y i) y) turned-is
        ∙ cond_both (eqb x.waiting 1) _ _ (λ y. y ≡ changed d (d.turned (scheduler_of H h f)) i x.weight true (ltb 0 (x.waiting - 1)))
        (λ one. ap (λ c. changed d (d.turned (scheduler_of H h f)) i x.weight true c) (sym (le-ltb 0 (x.waiting - 1) (omega (arith, eqb-true x.waiting 1 one)))))
        (λ more. ap (λ c. changed d (d.turned (scheduler_of H h f)) i x.weight true c) (sym (lt-ltb 0 (x.waiting - 1) (let ne = eqb-false x.waiting 1 more in let some = parts.2 in omega arith))))
        ∙ ap₂ (λ a b. changed d (d.turned (scheduler_of H h f)) i x.weight a b) (sym I.waits) (sym after) in
        at_set s.schedulers f g (served d (sched_at H s t f) i x) d.spare
        (λ c k y. y ≡ changed d (cond c (d.turned (scheduler_of H h k)) (scheduler_of H h k)) i x.weight (stream.waits_in x k) (stream.waits_in (stream.granted x p) k))
        (omega (arith, K.parts.schedulers_size, there))
        own
        (λ ne.
        let away : eqb x.macroflow g ≡ false = ne_eqb _ g (λ e. ne (sym parts.1 ∙ e)) in
        K.parts.schedules g l
        ∙ sym (changed_same d (scheduler_of H h g) i x.weight _ _ (ap (λ b. x.opened && (b && ltb 0 x.waiting)) away ∙ sym (ap (λ b. x.opened && (b && ltb 0 (x.waiting - 1))) away))))
        ∙ sym (scheduler_at H h t i (Booked (Granted f (issued h) p)) g x _ I.near old new)

    kept_issued : Kept H (booked_as i (issued h) (packet_at H s t f)) (issued_state (issued h))
    kept_issued =
        let x = at_slot i in
        let parts = waits_parts in
        let p = packet_at H s t f in
        let old = K.streams.slots i I.near in
        let new = kept_granted old f (issued h) p (sym old.opened_is ∙ parts.0) parts.2 in
        let e : SlotEvent = Booked (Granted f (issued h) p) in
        kept_with H laws h s K (AtSlot t i e) _ refl refl refl refl (streams_at K.streams t i e (stream.granted x p) I.near new)
        (ledger_granted K.ledger t i f p (t + x.life) I.near (omega (arith, I.free, K.issued_is, K.ledger.size)) (omega (arith, c-laws.packet_least (control_at H s t f))) (c-laws.packet_most (control_at H s t f)))
        (record {
          controllers_size = K.parts.controllers_size;
          schedulers_size = length-set s.schedulers f _ ∙ K.parts.schedulers_size;
          controls = λ g l. K.parts.controls g l ∙ sym (controller_still H h t i e g (λ n c. refl));
          schedules = sched_now;
        })

    -- with the number, the slot and the bytes as they are read
    pub next_issued : Next H h (Poll t f) (of_poll s (issued_reply H s t f i))
    next_issued =
        let m = s.core in
        let x = at_slot i in
        let p = packet_at H s t f in
        let fresh : Row = open_row i f p t (t + x.life) in
        let numbered : Kept H (booked_as i m.issued p) (issued_state m.issued) = subst (λ g. Kept H (booked_as i g p) (issued_state g)) (sym K.issued_is) kept_issued in
        subst (λ j. Kept H (booked_as j m.issued (bytes_of (set s.rows m.issued fresh) m.issued)) (issued_state m.issued)) (sym (slot_set s.rows m.issued fresh I.free))
        (subst (λ b. Kept H (booked_as i m.issued b) (issued_state m.issued)) (sym (bytes_set s.rows m.issued fresh I.free)) numbered)

  pub next_poll : (t f : ℕ) → Next H h (Poll t f) (step H.control H.scheduling s (Poll t f))
  next_poll t f =
      poll_ways H s t f (λ r. Next H h (Poll t f) (of_poll s r)) (λ n. kept_nothing H laws h s K) (kept_passed H laws h s K t) (kept_passed H laws h s K t) (next_issued t f)
