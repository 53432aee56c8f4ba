-- Opening, requesting and closing keep what the manager holds in step with the history.
--   Next             what is to be shown of a call's answer and what it leaves
--   parts_still      the parts, where they are told nothing
--   kept_with        one call more, after which the parts are kept
--   kept_nothing     a refused call
--   kept_passed      an accepted call that does nothing to a slot
--   kept_at          one that changes one record, and writes no row
use Rattle.std.proofs.Common.{◌≡◌, ℕ, ◌+◌, ◌<◌, Bool, true, false, cond, ◌&&◌, eqb, ltb, leb, List, ◌∷◌, length, get_or, set, sym, refl, ap, ◌∙◌, ap₂, arith}
use Rattle.std.proofs.lemmas.List.{length-set}
use Rattle.std.proofs.lemmas.Bool.{eqb-true, eqb-false, ltb-true, lt-ltb, leb-true, not-true, and_parts, and_right, cond_both}
use Rattle.meaning.specs.Scheduling.{SchedulingLaws}
use Rattle.tables.specs.declared.stream.Stream.{Stream}
use Rattle.tables.specs.Streams as stream
use Rattle.tables.specs.Core.{about_slot, about_macroflow, at_time, put}
use Rattle.tables.specs.Core as core
use Rattle.manager.specs.declared.call.Call.{Call}
use Rattle.manager.specs.declared.call.Call.TheVariants.{Open, Request, Close}
use Rattle.manager.specs.State.{State, state}
use Rattle.manager.specs.Steps.{Stepped, step}
use Rattle.law.specs.Effects.{SlotEvent, Effect, effect}
use Rattle.law.specs.Effects.SlotEvent.{Opened, Closed, Requested}
use Rattle.law.specs.Effects.Effect.{Nothing, Passed, AtSlot}
use Rattle.law.specs.History.{History, of_slot, last_time, issued, changed}
use Rattle.law.proofs.Ways.{by_test, at_set}
use Rattle.law.proofs.Calls.{open_cases, request_cases, close_cases}
use Rattle.law.proofs.SlotFacts.{SlotKept, waits_is, kept_opened, kept_requested, kept_closed}
use Rattle.law.proofs.Changes.{changed_same}
use Rattle.law.proofs.Ledger.{LedgerKept, ledger_same}
use Rattle.law.proofs.Kept.{Host, StreamsKept, streams_at, WritesNoRow, same_at, same_nothing, same_passed, controller_of, scheduler_of, PartsKept, Kept, controller_still, scheduler_still, scheduler_at, waiting_more}

module _ {C S : Type 0} (H : Host C S) where
  abbrev pub Next : History → Call → Stepped C S → Type 0
  Next h c o = Kept H (effect o.state.rows c o.answer ∷ h) o.state

module _ {C S : Type 0} (H : Host C S) (laws : SchedulingLaws 32 H.scheduling) (h : History) (s : State C S) (K : Kept H h s) where
  pub parts_still : (e : Effect) → ((f : ℕ) → controller_of H (e ∷ h) f ≡ controller_of H h f) → ((f : ℕ) → scheduler_of H (e ∷ h) f ≡ scheduler_of H h f) → PartsKept H (e ∷ h) s.controllers s.schedulers
  parts_still e c d = let P = K.parts in record {
    controllers_size = P.controllers_size;
    schedulers_size = P.schedulers_size;
    controls = λ f l. P.controls f l ∙ sym (c f);
    schedules = λ f l. P.schedules f l ∙ sym (d f);
  }

  -- the schedulers have those waiting who wait, by the records
  pub kept_with : (e : Effect) (s' : State C S) → s'.core.macroflows ≡ s.core.macroflows → s'.core.capacity ≡ s.core.capacity → s'.core.last ≡ last_time (e ∷ h) → s'.core.issued ≡ issued (e ∷ h)
      → StreamsKept H.macroflows (e ∷ h) s'.core.streams → LedgerKept H.rows (e ∷ h) s'.rows → PartsKept H (e ∷ h) s'.controllers s'.schedulers → Kept H (e ∷ h) s'
  kept_with e s' macroflows_same capacity_same last_is issued_is streams ledger parts = record {
    macroflows_is = macroflows_same ∙ K.macroflows_is;
    capacity_is = capacity_same ∙ K.capacity_is;
    last_is = last_is;
    issued_is = issued_is;
    streams = streams;
    ledger = ledger;
    parts = parts;
    waiting = λ f i l. waiting_more H laws h e K.streams.far streams f (λ j. K.waiting f j l) i;
  }

  pub kept_nothing : Kept H (Nothing ∷ h) s
  kept_nothing =
      kept_with Nothing _ refl refl K.last_is K.issued_is (record { many = K.streams.many; slots = K.streams.slots; far = K.streams.far })
      (ledger_same K.ledger (Nothing ∷ h) (same_nothing h))
      (parts_still Nothing (λ f. refl) (λ f. scheduler_still H h Nothing f refl (λ i l. refl)))

  pub kept_passed : (t : ℕ) → Kept H (Passed t ∷ h) (state (at_time s.core t) s.controllers s.schedulers s.rows)
  kept_passed t =
      kept_with (Passed t) _ refl refl refl K.issued_is (record { many = K.streams.many; slots = K.streams.slots; far = K.streams.far })
      (ledger_same K.ledger (Passed t ∷ h) (same_passed h t))
      (parts_still (Passed t) (λ f. refl) (λ f. scheduler_still H h (Passed t) f refl (λ i l. refl)))

  pub kept_at : (t i : ℕ) (e : SlotEvent) (r : Stream) (cs : List C) (ss : List S) → WritesNoRow e → i < 32 → SlotKept H.macroflows r (e ∷ of_slot h i) → PartsKept H (AtSlot t i e ∷ h) cs ss
      → Kept H (AtSlot t i e ∷ h) (state (put s.core t i r) cs ss s.rows)
  kept_at t i e r cs ss quiet near new parts =
      let same = same_at h t i e quiet in
      kept_with (AtSlot t i e) _ refl refl refl (K.issued_is ∙ sym same.issued_same) (streams_at K.streams t i e r near new) (ledger_same K.ledger (AtSlot t i e ∷ h) same) parts

  -- the record of the slot i
  abbrev at_slot : ℕ → Stream
  at_slot i = core.stream s.core i

  slot : (i : ℕ) → i < 32 → SlotKept H.macroflows (at_slot i) (of_slot h i)
  slot i l = K.streams.slots i l

  pub next_open : (t i f w l : ℕ) → Next H h (Open t i f w l) (step H.control H.scheduling s (Open t i f w l))
  next_open t i f w l =
      let m = s.core in
      open_cases H.control H.scheduling s (Next H h (Open t i f w l)) t i f w l (λ n _. kept_nothing)
      (λ p.
      let near = ltb-true i 32 p.1.0 in
      let there : f < H.macroflows = omega (arith, ltb-true f m.macroflows p.1.1.0, K.macroflows_is) in
      let shut : (at_slot i).opened ≡ false = not-true _ p.1.1.1.0 in
      let ranges = and_parts (leb 1 w && leb w 8) (leb 1 l && leb l 60000000) p.1.1.1.1.0 in
      let weights = and_parts (leb 1 w) (leb w 8) ranges.0 in
      let old = slot i near in
      let new = kept_opened old f w l t (sym old.opened_is ∙ shut) there (leb-true 1 w weights.0) (leb-true w 8 weights.1) (leb-true l 60000000 (and_parts (leb 1 l) _ ranges.1).1) in
      kept_at t i (Opened f w) (stream.opened (at_slot i) f w l t) s.controllers s.schedulers tt near new
      (parts_still (AtSlot t i (Opened f w))
      (λ g. controller_still H h t i (Opened f w) g (λ n c. refl))
      (λ g. scheduler_at H h t i (Opened f w) g (at_slot i) _ near old new
      ∙ changed_same H.scheduling (scheduler_of H h g) i w (stream.waits_in (at_slot i) g) _
      (ap (λ b. b && (eqb (at_slot i).macroflow g && ltb 0 (at_slot i).waiting)) shut ∙ sym (and_right (eqb f g) false refl)))))

  -- one scheduler of the list is told something
  pub told_one : (p f : ℕ) → p < H.macroflows → f < H.macroflows → (G : S → S) → get_or (set s.schedulers p (G (get_or s.schedulers p H.scheduling.spare))) f H.scheduling.spare ≡ cond (eqb p f) (G (scheduler_of H h f)) (scheduler_of H h f)
  told_one p f there l G =
      let ss = s.schedulers in
      let z = H.scheduling.spare in
      at_set ss p f (G (get_or ss p z)) z (λ b x y. y ≡ cond b (G (scheduler_of H h x)) (scheduler_of H h x)) (omega (arith, K.parts.schedulers_size)) (ap G (K.parts.schedules p there)) (λ _. K.parts.schedules f l)

  -- what a scheduler is told of one slot, by two tests: whether it waited, and whether it waits
  told_by_tests : (x : S) (i w : ℕ) (b n before now : Bool) → before ≡ b → now ≡ n → changed H.scheduling x i w b n ≡ changed H.scheduling x i w before now
  told_by_tests x i w b n before now p q = sym (ap₂ (λ y z. changed H.scheduling x i w y z) p q)

  pub begins : (x : S) (i w : ℕ) (before now : Bool) → before ≡ false → now ≡ true → H.scheduling.raised x i w ≡ changed H.scheduling x i w before now
  begins x i w = told_by_tests x i w false true

  pub ceases : (x : S) (i w : ℕ) (before now : Bool) → before ≡ true → now ≡ false → H.scheduling.lowered x i ≡ changed H.scheduling x i w before now
  ceases x i w = told_by_tests x i w true false

  pub stays : (x : S) (i w : ℕ) (before now : Bool) → before ≡ now → x ≡ changed H.scheduling x i w before now
  stays x i w before now e = sym (changed_same H.scheduling x i w before now e)

  -- the scheduler of a slot's macroflow, and the slot's record
  pub idle_there : (i f : ℕ) → i < 32 → f < H.macroflows → stream.waits_in (at_slot i) f ≡ false → H.scheduling.waits (scheduler_of H h f) i ≡ false
  idle_there i f near l idle = K.waiting f i l ∙ sym (waits_is (slot i near) f) ∙ idle

  -- an open slot, by the questions of a call
  pub is_there : (i : ℕ) → i < 32 → (at_slot i).opened ≡ true → (at_slot i).macroflow < H.macroflows
  is_there i near on = let old = slot i near in let p = (old.placed (sym old.opened_is ∙ on)).0 in omega (arith, old.macroflow_is)

  pub next_request : (t i : ℕ) → Next H h (Request t i) (step H.control H.scheduling s (Request t i))
  next_request t i =
      let x = at_slot i in
      let d = H.scheduling in
      let ss = s.schedulers in
      request_cases H.control d s (Next H h (Request t i)) t i (λ n _. kept_nothing)
      (λ p.
      let near = ltb-true i 32 p.1.1.0 in
      let on = p.1.1.1.0 in
      let old = slot i near in
      let new = kept_requested old t (sym old.opened_is ∙ on) (ltb-true _ 255 p.1.1.1.1.0) in
      let there = is_there i near on in
      let more : ltb 0 (x.waiting + 1) ≡ true = lt-ltb 0 _ (omega arith) in
      kept_at t i Requested (stream.requested x t) s.controllers (cond (eqb x.waiting 0) (set ss x.macroflow (d.raised (get_or ss x.macroflow d.spare) i x.weight)) ss) tt near new
      (record {
        controllers_size = K.parts.controllers_size;
        schedulers_size = cond_both (eqb x.waiting 0) _ _ (λ xs. length xs ≡ H.macroflows) (λ _. length-set ss _ _ ∙ K.parts.schedulers_size) (λ _. K.parts.schedulers_size);
        controls = λ f l. K.parts.controls f l ∙ sym (controller_still H h t i Requested f (λ n c. refl));
        schedules = λ f l.
            let y = scheduler_of H h f in
            cond_both (eqb x.waiting 0) _ _ (λ xs. get_or xs f d.spare ≡ changed d y i x.weight (x.opened && (eqb x.macroflow f && ltb 0 x.waiting)) (x.opened && (eqb x.macroflow f && ltb 0 (x.waiting + 1))))
            -- the first request: in its own macroflow it begins to wait
            (λ none.
            told_one x.macroflow f there l (λ z. d.raised z i x.weight)
            ∙ by_test (eqb x.macroflow f) (λ c. cond c (d.raised y i x.weight) y ≡ changed d y i x.weight (x.opened && (c && ltb 0 x.waiting)) (x.opened && (c && ltb 0 (x.waiting + 1))))
            (λ _. begins y i x.weight _ _ (ap₂ (λ a b. a && ltb 0 b) on (eqb-true x.waiting 0 none)) (ap₂ (λ a b. a && b) on more))
            (λ _. stays y i x.weight _ _ refl))
            -- it waited already
            (λ some. K.parts.schedules f l ∙ stays y i x.weight _ _ (ap (λ b. x.opened && (eqb x.macroflow f && b)) (lt-ltb 0 x.waiting (let ne = eqb-false x.waiting 0 some in omega arith) ∙ sym more)))
            ∙ sym (scheduler_at H h t i Requested f x _ near old new);
      }))

  pub next_close : (t i : ℕ) → Next H h (Close t i) (step H.control H.scheduling s (Close t i))
  next_close t i =
      let x = at_slot i in
      let d = H.scheduling in
      let ss = s.schedulers in
      close_cases H.control d s (Next H h (Close t i)) t i (λ n _. kept_nothing)
      (λ p.
      let near = ltb-true i 32 p.1.1.0 in
      let on = p.1.1.1.0 in
      let old = slot i near in
      let new = kept_closed old (eqb-true _ 0 p.1.1.1.1.0) in
      let there = is_there i near on in
      let h' : History = AtSlot t i Closed ∷ h in
      -- in its own macroflow it ceases to wait, if it did
      let own : (f : ℕ) → f < H.macroflows → eqb x.macroflow f ≡ true → d.lowered (scheduler_of H h f) i ≡ changed d (scheduler_of H h f) i x.weight (stream.waits_in x f) false = λ f l here.
      by_test (stream.waits_in x f) (λ b. d.lowered (scheduler_of H h f) i ≡ changed d (scheduler_of H h f) i x.weight b false)
      (λ _. refl)
      (λ idle. laws.lower_idle (scheduler_of H h f) i (idle_there i f near l idle)) in
      let off : (f : ℕ) → eqb x.macroflow f ≡ false → stream.waits_in x f ≡ false = λ f away. ap (λ b. x.opened && (b && ltb 0 x.waiting)) away ∙ and_right x.opened false refl in
      kept_at t i Closed (stream.closed x) s.controllers (set ss x.macroflow (d.lowered (get_or ss x.macroflow d.spare) i)) tt near new
      (record {
        controllers_size = K.parts.controllers_size;
        schedulers_size = length-set ss _ _ ∙ K.parts.schedulers_size;
        controls = λ f l. K.parts.controls f l ∙ sym (controller_still H h t i Closed f (λ n c. refl));
        schedules = λ f l.
            told_one x.macroflow f there l (λ y. d.lowered y i)
            ∙ cond_both (eqb x.macroflow f) _ _ (λ y. y ≡ changed d (scheduler_of H h f) i x.weight (stream.waits_in x f) false)
            (own f l)
            (λ away. stays (scheduler_of H h f) i x.weight _ _ (off f away))
            ∙ sym (scheduler_at H h t i Closed f x _ near old new);
      }))
