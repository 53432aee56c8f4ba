-- Reports keep what the manager holds in step with the history.
--   outstanding_most   a record's outstanding bytes are few enough that no sum of them overflows
--   flight_is          the flight by the records is that by the history
--   next_report        a report
use Rattle.std.proofs.Common.{◌≡◌, ℕ, ◌-◌, ◌*◌, ◌^◌, ◌<◌, ◌≤◌, min, cond, ◌&&◌, eqb, get_or, set, sym, refl, ap, ◌∙◌, ap₂, arith}
use Rattle.std.proofs.lemmas.List.{length-set}
use Rattle.std.proofs.lemmas.Bool.{ltb-true, leb-true, cond_both}
use Rattle.meaning.specs.Scheduling.{SchedulingLaws}
use Rattle.tables.specs.declared.stream.Stream.{Stream}
use Rattle.tables.specs.Streams as stream
use Rattle.tables.specs.Core.{about_slot, put}
use Rattle.tables.specs.Core as core
use Rattle.tables.specs.Sums as sums
use Rattle.stream_calls.specs.declared.reporting.Feedback.{Feedback}
use Rattle.stream_calls.specs.Calls as reports
use Rattle.manager.specs.declared.call.Call.TheVariants.{Report as Reports}
use Rattle.manager.specs.State.{State}
use Rattle.manager.specs.Steps.{step}
use Rattle.law.specs.Effects.Booking.{Reported}
use Rattle.law.specs.Effects.SlotEvent.{Booked}
use Rattle.law.specs.Slots.{outstanding}
use Rattle.law.specs.History.{History, of_slot, is_in, flight, report_of}
use Rattle.law.proofs.Ways.{at_set}
use Rattle.law.proofs.Calls.{report_cases}
use Rattle.law.proofs.Sums.{sum_is, sum_most}
use Rattle.law.proofs.SlotFacts.{outstanding_is, is_in_is, kept_reported}
use Rattle.law.proofs.Kept.{Host, controller_of, scheduler_of, Kept, scheduler_at}
use Rattle.law.proofs.Streaming.{Next, kept_nothing, kept_at, is_there, stays}

module _ {C S : Type 0} (H : Host C S) (laws : SchedulingLaws 32 H.scheduling) (few : H.rows ≤ 65536) (h : History) (s : State C S) (K : Kept H h s) where
  abbrev at_slot : ℕ → Stream
  at_slot i = core.stream s.core i

  -- no slot was charged more than all rows could grant
  pub charged_most : (i : ℕ) → i < 32 → (at_slot i).charged ≤ 589824000
  charged_most i l =
      let old = K.streams.slots i l in
      let c = old.charged_is in
      let r = old.reserved_is in
      omega (arith, K.ledger.bounded i, K.ledger.room)

  pub outstanding_most : (i : ℕ) → i < 32 → (at_slot i).outstanding ≤ 589824000
  outstanding_most i l = omega (arith, charged_most i l, (K.streams.slots i l).balance)

  pub flight_is : (f : ℕ) → sums.flight s.core f ≡ flight h f
  flight_is f =
      let same : sums.outstanding s.core f ≡ flight h f =
      sum_is 32 (λ i. stream.flight_in (at_slot i) f) (λ i. cond (is_in h f i) (outstanding (of_slot h i)) 0)
      (λ i l. let old = K.streams.slots i l in ap₂ (λ c n. cond c n 0) (is_in_is old f) (outstanding_is old)) in
      let most : flight h f ≤ 32 * 589824000 = sum_most 32 589824000 (λ i. cond (is_in h f i) (outstanding (of_slot h i)) 0)
      (λ i l. cond_both (is_in h f i) _ _ (λ n. n ≤ 589824000) (λ _. omega (arith, outstanding_most i l, outstanding_is (K.streams.slots i l))) (λ _. omega arith)) in
      ap (λ n. min n (2 ^ 64 - 1)) same ∙ omega arith

  pub next_report : (t i : ℕ) (b : Feedback) → Next H h (Reports t i b) (step H.control H.scheduling s (Reports t i b))
  next_report t i b =
      let m = s.core in
      let x = at_slot i in
      let k = H.control in
      let cs = s.controllers in
      report_cases k H.scheduling s (Next H h (Reports t i b)) t i b (λ n _. kept_nothing H laws h s K)
      (λ p.
      let near = ltb-true i 32 p.1.1.0 in
      let on = p.1.1.1.0 in
      let old = K.streams.slots i near in
      let new = kept_reported old b t (sym old.opened_is ∙ on) (leb-true _ _ p.1.1.1.1.1.0) in
      let there = is_there H laws h s K i near on in
      let z = k.spare in
      -- the slot is in its own macroflow and in no other
      let in-its-own : (f : ℕ) → is_in h f i ≡ eqb x.macroflow f = λ f. sym (is_in_is old f) ∙ ap (λ c. c && eqb x.macroflow f) on in
      kept_at H laws h s K t i (Booked (Reported b)) (stream.reported x b.received b.lost t) (set cs x.macroflow (k.told (get_or cs x.macroflow z) (reports.heard m x.macroflow t b))) s.schedulers tt near new
      (record {
        controllers_size = length-set cs _ _ ∙ K.parts.controllers_size;
        schedulers_size = K.parts.schedulers_size;
        controls = λ f l.
            at_set cs x.macroflow f (k.told (get_or cs x.macroflow z) (reports.heard m x.macroflow t b)) z (λ c g y. y ≡ cond c (k.told (controller_of H h g) (report_of t b (flight h g))) (controller_of H h g)) (omega (arith, K.parts.controllers_size))
            (ap₂ (λ c n. k.told c (report_of t b n)) (K.parts.controls x.macroflow there) (flight_is x.macroflow))
            (λ _. K.parts.controls f l)
            ∙ ap (λ c. cond c (k.told (controller_of H h f) (report_of t b (flight h f))) (controller_of H h f)) (sym (in-its-own f));
        schedules = λ f l. K.parts.schedules f l ∙ stays H laws h s K (scheduler_of H h f) i x.weight _ _ refl ∙ sym (scheduler_at H h t i (Booked (Reported b)) f x _ near old new);
      }))
