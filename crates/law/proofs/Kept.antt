-- What the manager holds is what the history tells.
--   Host            what the host gave at first
--   StreamsKept    each record tells what happened to its slot
--   PartsKept      each controller and scheduler is the one that the history tells
--   Kept            all of it
--   streams_at, waiting_more, controller_still, scheduler_still, scheduler_at    how it stays so with one call more
use Rattle.std.proofs.Common.{◌≡◌, ℕ, ◌<◌, ◌≤◌, true, false, cond, ◌&&◌, eqb, List, [], ◌∷◌, length, get_or, set, sym, refl, ap, ◌∙◌, ap₂, ⊎_elim, arith}
use Rattle.std.proofs.lemmas.List.{length-set}
use Rattle.std.proofs.lemmas.Bool.{cond-true, cond-false, eq-eqb, ne_eqb, lt-ltb, le-ltb, cases_lt, and_parts, true≢false, cond_both}
use Rattle.meaning.specs.Control.{Control}
use Rattle.meaning.specs.Scheduling.{Scheduling, SchedulingLaws}
use Rattle.tables.specs.declared.stream.Stream.{Stream}
use Rattle.tables.specs.Streams as stream
use Rattle.manager.specs.State.{State}
use Rattle.law.specs.Effects.{Booking, SlotEvent, Effect}
use Rattle.law.specs.Effects.Booking.{Granted, Settled, Expired, Reported}
use Rattle.law.specs.Effects.SlotEvent.{Moved, Booked}
use Rattle.law.specs.Effects.Effect.{Nothing, Passed, AtSlot, Merged}
use Rattle.law.specs.Slots.{weight, waits, is_grant, granted}
use Rattle.law.specs.History.{History, of_slot, open_in, is_in, waits_in, last_time, issued, is_end_of, booked, sum_of, flight, told, controller, changed, picked, picked_at, scheduler}
use Rattle.law.proofs.Ways.{at_set, event_cases}
use Rattle.law.proofs.SlotFacts.{ended, SlotKept, waits_is}
use Rattle.law.proofs.Changes.{unchanged, changed_one, waits_changed}
use Rattle.law.proofs.Ledger.{SameBooks, LedgerKept}

pub record Host (C S : Type 0) : Type 0 where
  pub control : Control C
  pub scheduling : Scheduling S
  pub macroflows : ℕ
  pub rows : ℕ
  pub controllers : List C
  pub schedulers : List S

-- over F macroflows
pub record StreamsKept (F : ℕ) (h : History) (xs : List Stream) : Type 0 where
  pub many : length xs ≡ 32
  pub slots : (i : ℕ) → i < 32 → SlotKept F (get_or xs i stream.no_stream) (of_slot h i)
  pub far : (i : ℕ) → 32 ≤ i → of_slot h i ≡ []

pub streams_at : {F : ℕ} {h : History} {xs : List Stream} → StreamsKept F h xs → (t i : ℕ) (e : SlotEvent) (r : Stream) → i < 32 → SlotKept F r (e ∷ of_slot h i) → StreamsKept F (AtSlot t i e ∷ h) (set xs i r)
streams_at {F} {h} {xs} K t i e r near new = record {
  many = length-set xs i r ∙ K.many;
  slots = λ j l.
      at_set xs i j r stream.no_stream (λ c x s. SlotKept F s (cond c (e ∷ of_slot h x) (of_slot h x))) (omega (arith, K.many)) new (λ _. K.slots j l);
  far = λ j l. cond-false _ _ _ (ne_eqb i j (λ (q : i ≡ j). omega arith)) ∙ K.far j l;
}

-- what happens to a slot without a grant being issued or ended
abbrev pub WritesNoRow : SlotEvent → Type 0
WritesNoRow (Booked (Granted f g b)) = ⊥
WritesNoRow (Booked (Settled g b n)) = ⊥
WritesNoRow (Booked (Expired g b)) = ⊥
WritesNoRow _ = Unit {0}

pub record WritesNone (e : SlotEvent) : Type 0 where
  pub no_grant : booked is_grant e ≡ 0
  pub no_end : (g : ℕ) → booked (is_end_of g) e ≡ 0
  pub granted_same : (es : List SlotEvent) → granted (e ∷ es) ≡ granted es
  pub ended_same : (es : List SlotEvent) → ended (e ∷ es) ≡ ended es
  pub booked_same : (n : Booking → ℕ) → ((r : Rattle.stream_calls.specs.declared.reporting.Feedback.Feedback) → n (Reported r) ≡ 0) → (es : List SlotEvent) → sum_of (booked n) (e ∷ es) ≡ sum_of (booked n) es

pub writes_none : (e : SlotEvent) → WritesNoRow e → WritesNone e
writes_none (Booked (Granted f g b)) x = absurd x
writes_none (Booked (Settled g b n)) x = absurd x
writes_none (Booked (Expired g b)) x = absurd x
writes_none _ _ = search arith

pub same_at : (h : History) (t i : ℕ) (e : SlotEvent) → WritesNoRow e → SameBooks h (AtSlot t i e ∷ h)
same_at h t i e quiet =
    let W = writes_none e quiet in
    record {
      issued_same = omega (arith, W.no_grant);
      ends_same = λ g. omega (arith, W.no_end g);
      granted_same = λ j. event_cases h t i j e (λ _ x es. granted es ≡ granted (of_slot h x)) (W.granted_same (of_slot h i)) (λ _. refl);
      ended_same = λ j. event_cases h t i j e (λ _ x es. ended es ≡ ended (of_slot h x)) (W.ended_same (of_slot h i)) (λ _. refl);
      booked_same = λ n z j. event_cases h t i j e (λ _ x es. sum_of (booked n) es ≡ sum_of (booked n) (of_slot h x)) (W.booked_same n z (of_slot h i)) (λ _. refl);
    }

pub same_nothing : (h : History) → SameBooks h (Nothing ∷ h)
same_nothing h = search arith

pub same_passed : (h : History) (t : ℕ) → SameBooks h (Passed t ∷ h)
same_passed h t = search arith

pub same_merged : (h : History) (t a b : ℕ) → SameBooks h (Merged t a b ∷ h)
same_merged h t a b =
    let W = writes_none (Moved b) tt in
    record {
      issued_same = refl;
      ends_same = λ g. refl;
      granted_same = λ j. cond_both (is_in h a j) _ _ (λ es. granted es ≡ granted (of_slot h j)) (λ _. refl) (λ _. refl);
      ended_same = λ j. cond_both (is_in h a j) _ _ (λ es. ended es ≡ ended (of_slot h j)) (λ _. refl) (λ _. refl);
      booked_same = λ n z j. cond_both (is_in h a j) _ _ (λ es. sum_of (booked n) es ≡ sum_of (booked n) (of_slot h j)) (λ _. W.booked_same n z (of_slot h j)) (λ _. refl);
    }

module _ {C S : Type 0} (H : Host C S) where
  abbrev pub controller_of : History → ℕ → C
  controller_of h f = controller H.control H.controllers h f

  abbrev pub scheduler_of : History → ℕ → S
  scheduler_of h f = scheduler H.scheduling H.schedulers h f

  pub record PartsKept (h : History) (cs : List C) (ss : List S) : Type 0 where
    pub controllers_size : length cs ≡ H.macroflows
    pub schedulers_size : length ss ≡ H.macroflows
    pub controls : (f : ℕ) → f < H.macroflows → get_or cs f H.control.spare ≡ controller_of h f
    pub schedules : (f : ℕ) → f < H.macroflows → get_or ss f H.scheduling.spare ≡ scheduler_of h f

  pub record Kept (h : History) (s : State C S) : Type 0 where
    pub macroflows_is : s.core.macroflows ≡ H.macroflows
    pub capacity_is : s.core.capacity ≡ H.rows
    pub last_is : s.core.last ≡ last_time h
    pub issued_is : s.core.issued ≡ issued h
    pub streams : StreamsKept H.macroflows h s.core.streams
    pub ledger : LedgerKept H.rows h s.rows
    pub parts : PartsKept h s.controllers s.schedulers
    pub waiting : (f i : ℕ) → f < H.macroflows → H.scheduling.waits (scheduler_of h f) i ≡ waits_in h f i

  -- the controllers are told nothing but reports
  pub controller_still : (h : History) (t i : ℕ) (e : SlotEvent) (f : ℕ) → ((n : ℕ) (c : C) → told H.control t n c e ≡ c) → controller_of (AtSlot t i e ∷ h) f ≡ controller_of h f
  controller_still h t i e f quiet = cond_both (is_in h f i) _ _ (λ c. c ≡ controller_of h f) (λ _. quiet (flight h f) (controller_of h f)) (λ _. refl)

  -- who waits is told to the schedulers
  pub scheduler_still : (h : History) (e : Effect) (f : ℕ) → picked H.scheduling f (scheduler_of h f) e ≡ scheduler_of h f → ((i : ℕ) → i < 32 → waits_in h f i ≡ waits_in (e ∷ h) f i) → scheduler_of (e ∷ h) f ≡ scheduler_of h f
  scheduler_still h e f none same = unchanged H.scheduling 32 (waits_in h f) (waits_in (e ∷ h) f) (λ i. weight (of_slot (e ∷ h) i)) _ same ∙ none

  -- of one slot, by its record before and after
  pub scheduler_at : {F : ℕ} (h : History) (t i : ℕ) (e : SlotEvent) (f : ℕ) (s r : Stream) → i < 32 → SlotKept F s (of_slot h i) → SlotKept F r (e ∷ of_slot h i)
      → scheduler_of (AtSlot t i e ∷ h) f ≡ changed H.scheduling (picked_at H.scheduling f (scheduler_of h f) e) i r.weight (stream.waits_in s f) (stream.waits_in r f)
  scheduler_at h t i e f s r near old new =
      let d = H.scheduling in
      let h' : History = AtSlot t i e ∷ h in
      let own : of_slot h' i ≡ e ∷ of_slot h i = cond-true _ _ _ (eq-eqb i i refl) in
      let now : waits_in h' f i ≡ stream.waits_in r f = ap (λ es. open_in f es && waits es) own ∙ sym (waits_is new f) in
      let weighs : weight (of_slot h' i) ≡ r.weight = ap weight own ∙ sym new.weight_is in
      changed_one d i 32 (waits_in h f) (waits_in h' f) (λ j. weight (of_slot h' j)) (picked_at d f (scheduler_of h f) e) near
      (λ j l ne. sym (ap (λ c. open_in f (cond c (e ∷ of_slot h j) (of_slot h j)) && waits (cond c (e ∷ of_slot h j) (of_slot h j))) (ne_eqb i j (λ q. ne (sym q)))))
      ∙ ap (λ w. changed d (picked_at d f (scheduler_of h f) e) i w (waits_in h f i) (waits_in h' f i)) weighs
      ∙ ap₂ (λ x y. changed d (picked_at d f (scheduler_of h f) e) i r.weight x y) (sym (waits_is old f)) now

  module _ (laws : SchedulingLaws 32 H.scheduling) where
    pub picked_keeps : (f : ℕ) (s : S) (e : Effect) (i : ℕ) → H.scheduling.waits (picked H.scheduling f s e) i ≡ H.scheduling.waits s i
    picked_keeps f s (AtSlot t k (Booked (Granted a g b))) i =
        cond_both (eqb a f) _ _ (λ x. H.scheduling.waits x i ≡ H.scheduling.waits s i) (λ _. laws.pick_keeps s i) (λ _. refl)
    picked_keeps f s _ i = refl

    -- each scheduler has those waiting who wait, with one call more
    pub waiting_more : {F : ℕ} {xs : List Stream} (h : History) (e : Effect) (old-far : (i : ℕ) → 32 ≤ i → of_slot h i ≡ []) → StreamsKept F (e ∷ h) xs
        → (f : ℕ) → ((i : ℕ) → H.scheduling.waits (scheduler_of h f) i ≡ waits_in h f i)
        → (i : ℕ) → H.scheduling.waits (scheduler_of (e ∷ h) f) i ≡ waits_in (e ∷ h) f i
    waiting_more h e old-far K f before i =
        let d = H.scheduling in
        let now = waits_in (e ∷ h) f in
        -- where nothing happened, nobody waits
        let never : (h' : History) (j : ℕ) → of_slot h' j ≡ [] → waits_in h' f j ≡ false = λ h' j none. ap (λ es. open_in f es && waits es) none in
        let weights : (j : ℕ) → now j ≡ true → (1 ≤ weight (of_slot (e ∷ h) j)) × (weight (of_slot (e ∷ h) j) ≤ 8) = λ j on.
        ⊎_elim
        (λ (l : j < 32). let p = (K.slots j l).placed (and_parts _ _ (and_parts _ _ on).0).0 in (p.1, p.2))
        (λ (l : 32 ≤ j). absurd (true≢false (sym on ∙ never (e ∷ h) j (K.far j l))))
        (cases_lt j 32) in
        waits_changed d laws 32 (waits_in h f) now (λ j. weight (of_slot (e ∷ h) j)) (picked d f (scheduler_of h f) e) (omega arith) (λ j. picked_keeps f (scheduler_of h f) e j ∙ before j) weights i
        ∙ ⊎_elim
        (λ (l : i < 32). cond-true _ _ _ (lt-ltb i 32 l))
        (λ (l : 32 ≤ i). cond-false _ _ _ (le-ltb i 32 l) ∙ never h i (old-far i l) ∙ sym (never (e ∷ h) i (K.far i l)))
        (cases_lt i 32)
