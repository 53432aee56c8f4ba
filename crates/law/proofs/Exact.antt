-- A poll issues exactly when it should, to whom it should.
--   someone_is, load_is, fits_is    what a poll looks at in the records is what the history tells
--   poll_exact                      a poll issues exactly then
--   poll_picks                      the next row, of one packet, to the slot that the scheduler picks
use Rattle.std.proofs.Common.{◌≡◌, ℕ, Bool, false, ◌+◌, ◌<◌, ◌≤◌, true, cond, leb, ◌↔◌, List, length, set, Some, Ok, sym, refl, ap, ◌∙◌, subst, ap₂, arith}
use Rattle.std.proofs.lemmas.Bool.{lt-ltb, leb-true, le-leb, and_parts, and_from, true≢false}
use Rattle.meaning.specs.Control.{ControlLaws}
use Rattle.meaning.specs.Scheduling.{SchedulingLaws}
use Rattle.meaning.proofs.AnyBelow.{any_below_some, any_below_true}
use Rattle.tables.specs.declared.row.Row.{Row}
use Rattle.tables.specs.declared.stream.Stream.{Stream}
use Rattle.tables.specs.Streams as stream
use Rattle.tables.specs.Rows.{open_row}
use Rattle.tables.specs.Core.{about_macroflow, at_time}
use Rattle.tables.specs.Core as core
use Rattle.tables.specs.Sums as sums
use Rattle.grant_calls.specs.declared.polling.Polled.TheVariants as poll
use Rattle.manager.specs.declared.call.Call.TheVariants.{Poll}
use Rattle.manager.specs.declared.call.Told.TheVariants as told
use Rattle.manager.specs.Answers.{Answer}
use Rattle.manager.specs.State.{State}
use Rattle.manager.specs.Steps.{of_poll, step}
use Rattle.law.specs.Effects.{slot_of, bytes_of}
use Rattle.law.specs.Slots.{outstanding}
use Rattle.law.specs.History.{History, of_slot, is_in, issued, open_bytes, load}
use Rattle.law.specs.Law.{Issues, InOrder, SomeoneWaits}
use Rattle.law.proofs.Ways.{Passes, no_both}
use Rattle.law.proofs.Sums.{sum_is}
use Rattle.law.proofs.SlotFacts.{outstanding_is, is_in_is, waits_is}
use Rattle.law.proofs.Kept.{Host, controller_of, scheduler_of, Kept}
use Rattle.law.proofs.Granting.{slot_set, bytes_set}
use Rattle.law.proofs.Polling.{packet_at, fits_at, first_questions, later_questions, poll_cases, poll_ways}
use Rattle.law.proofs.Sound.{reserved_is, agrees_right, never_stuck, tables_right}

-- an answer that is no grant
abbrev is_grant : Answer → Bool
is_grant (Ok (told.Polled (poll.Granted g))) = true
is_grant _ = false

no_grant : {g : ℕ} (a : Answer) → a ≡ Ok (told.Polled (poll.Granted g)) → is_grant a ≡ false → ⊥
no_grant a e other = true≢false (sym (ap is_grant e) ∙ other)

module _ {C S : Type 0} (H : Host C S) (c-laws : ControlLaws H.control) (laws : SchedulingLaws 32 H.scheduling) (few : H.rows ≤ 65536) (h : History) (s : State C S) (K : Kept H h s) where
  abbrev at_slot : ℕ → Stream
  at_slot i = core.stream s.core i

  someone_is : (f : ℕ) → sums.someone_waits s.core f ≡ true → SomeoneWaits h f
  someone_is f e =
      let one = any_below_some 32 (λ i. stream.waits_in (at_slot i) f) e in
      (one.0, one.1, sym (waits_is (K.streams.slots one.0 one.1) f) ∙ one.2)

  someone_from : (f : ℕ) → SomeoneWaits h f → sums.someone_waits s.core f ≡ true
  someone_from f w = any_below_true 32 (λ i. stream.waits_in (at_slot i) f) w.0 w.1 (waits_is (K.streams.slots w.0 w.1) f ∙ w.2)

  pub load_is : (f : ℕ) → sums.load s.core f ≡ load h f
  load_is f =
      sum_is 32 (λ i. stream.load_in (at_slot i) f) (λ i. cond (is_in h f i) (outstanding (of_slot h i) + open_bytes h i) 0)
      (λ i l.
      let old = K.streams.slots i l in
      ap₂ (λ c n. cond c n 0) (is_in_is old f) (ap₂ (λ a b. a + b) (outstanding_is old) (reserved_is H c-laws laws few h s K i l)))

  abbrev FitsThere : ℕ → Type 0
  FitsThere f = load h f + H.control.packet (controller_of H h f) ≤ H.control.allowance (controller_of H h f)

  fits_is : (t f : ℕ) → f < H.macroflows → fits_at H s t f ≡ leb (load h f + H.control.packet (controller_of H h f)) (H.control.allowance (controller_of H h f))
  fits_is t f there = ap₂ (λ n c. leb (n + H.control.packet c) (H.control.allowance c)) (load_is f) (K.parts.controls f there)

  abbrev Right : ℕ → ℕ → Type 0
  Right t f = (f < H.macroflows) × InOrder h t × SomeoneWaits h f × (issued h < H.rows) × FitsThere f

  -- only then
  only_then : (t f : ℕ) → Issues (step H.control H.scheduling s (Poll t f)).answer → Right t f
  only_then t f =
      poll_ways H s t f (λ r. Issues (of_poll s r).answer → Right t f)
      (λ n x. absurd (no_grant _ x.1 refl))
      (λ x. absurd (no_grant _ x.1 refl))
      (λ x. absurd (no_grant _ x.1 refl))
      (λ i I x.
      let there : f < H.macroflows = omega (arith, I.exists, K.macroflows_is) in
      let time = and_parts (leb s.core.last t) _ I.in_order in (
        there,
        (omega (arith, leb-true s.core.last t time.0, K.last_is), leb-true t 1000000000000000 time.1),
        someone_is f I.someone,
        omega (arith, I.free, K.issued_is, K.ledger.size),
        leb-true _ _ (sym (fits_is t f there) ∙ I.fits),
      ))

  -- and then always
  always_then : (t f : ℕ) → Right t f → Issues (step H.control H.scheduling s (Poll t f)).answer
  always_then t f right =
      let m = s.core in
      let there = right.0 in
      let someone = someone_from f right.2 in
      let passes : Passes (first_questions H s t f) = (
        tables_right H c-laws laws few h s K,
        (and_from _ _ (le-leb m.last t (omega (arith, right.1.0, K.last_is))) (le-leb t 1000000000000000 right.1.1), (lt-ltb f m.macroflows (omega (arith, K.macroflows_is)), tt)),
      ) in
      let issue-passes : Passes (later_questions H s t f) = (lt-ltb m.issued (length s.rows) (omega (arith, right.3, K.issued_is, K.ledger.size)), (agrees_right H c-laws laws few h s K f there, tt)) in
      poll_cases H s t f (λ r. Issues (of_poll s r).answer)
      (λ n w. absurd (no_both (first_questions H s t f) n passes w))
      (λ _ _ n w. absurd (no_both (later_questions H s t f) n issue-passes w))
      (λ _ _ stuck. absurd (never_stuck H c-laws laws few h s K t f there right.1.1 someone stuck))
      (λ none. absurd (true≢false (sym someone ∙ none)))
      (λ over. absurd (true≢false (sym (fits_is t f there ∙ le-leb _ _ right.4) ∙ over)))
      (λ i I. (m.issued, refl))

  pub poll_exact : (t f : ℕ) → Issues (step H.control H.scheduling s (Poll t f)).answer ↔ Right t f
  poll_exact t f = (only_then t f, always_then t f)

  abbrev pub Picked : ℕ → ℕ → List Row → Type 0
  Picked f g rows = (g ≡ issued h) × (bytes_of rows g ≡ H.control.packet (controller_of H h f)) × (H.scheduling.chosen (scheduler_of H h f) ≡ Some (slot_of rows g))

  pub poll_picks : (t f g : ℕ) → (step H.control H.scheduling s (Poll t f)).answer ≡ Ok (told.Polled (poll.Granted g)) → Picked f g (step H.control H.scheduling s (Poll t f)).state.rows
  poll_picks t f g =
      poll_ways H s t f (λ r. (of_poll s r).answer ≡ Ok (told.Polled (poll.Granted g)) → Picked f g (of_poll s r).state.rows)
      (λ n x. absurd (no_grant _ x refl))
      (λ x. absurd (no_grant _ x refl))
      (λ x. absurd (no_grant _ x refl))
      (λ i I x.
      let m = s.core in
      let rs = s.rows in
      let there : f < H.macroflows = omega (arith, I.exists, K.macroflows_is) in
      let y : Ok (told.Polled (poll.Granted m.issued)) ≡ Ok (told.Polled (poll.Granted g)) = x in
      let same : m.issued ≡ g = cc y in
      let p = packet_at H s t f in
      let fresh : Row = open_row i f p t (t + (at_slot i).life) in
      subst (λ k. Picked f k (set rs m.issued fresh)) same (
        K.issued_is,
        bytes_set rs m.issued fresh I.free ∙ ap H.control.packet (K.parts.controls f there),
        ap H.scheduling.chosen (sym (K.parts.schedules f there)) ∙ I.chosen ∙ ap Some (sym (slot_set rs m.issued fresh I.free)),
      ))
