-- Take-up, settlement and expiry keep what the manager holds in step with the history.
--   slot_set, bytes_set   a row that was written tells its slot and its bytes
--   ledger_marked         a row that keeps its slot, its bytes and its fate
--   kept_ended            a grant ends
--   found_due             the row that expire finds is issued, and open
--   next_take_up, next_settle, next_expire
use Rattle.std.proofs.Common.{◌≡◌, ℕ, ◌+◌, ◌<◌, ◌≤◌, Bool, true, false, eqb, ltb, List, [], ◌∷◌, length, get_or, take, set, Some, None, Option, sym, refl, ap, ◌∙◌, subst, arith}
use Rattle.std.proofs.lemmas.List.{get_or-set_same, length-set, get_or-map, get_or-take, length-take}
use Rattle.std.proofs.lemmas.Bool.{ltb-true, leb-true, and_parts, cond_both}
use Rattle.least.specs.Order.{first_least, against, shifted}
use Rattle.meaning.specs.Scheduling.{SchedulingLaws}
use Rattle.tables.specs.declared.core_state.Core.{Core}
use Rattle.tables.specs.declared.row.Row.{Row}
use Rattle.tables.specs.declared.stream.Stream.{Stream}
use Rattle.tables.specs.Streams as stream
use Rattle.tables.specs.Rows.{blank_row, is_open, is_due, due_upto, taken_up, settled_row, expired_row}
use Rattle.tables.specs.Core.{about_slot, at_time, put}
use Rattle.tables.specs.Core as core
use Rattle.grant_calls.specs.Grants as grants
use Rattle.grant_calls.specs.Grants.{row}
use Rattle.manager.specs.declared.call.Call.TheVariants.{TakeUp, Settle, Expire}
use Rattle.manager.specs.State.{State, state}
use Rattle.manager.specs.Steps.{step}
use Rattle.law.specs.Effects.{Booking, slot_of, bytes_of}
use Rattle.law.specs.Effects.Booking.{Settled, Expired}
use Rattle.law.specs.Effects.SlotEvent.{Booked}
use Rattle.law.specs.Effects.Effect.{Passed, AtSlot}
use Rattle.law.specs.History.{History, of_slot, issued, ends, told, picked_at}
use Rattle.law.proofs.Ways.{at_set}
use Rattle.law.proofs.Calls.{take_up_cases, settle_cases, expire_cases}
use Rattle.law.proofs.SlotFacts.{SlotKept, kept_settled, kept_expired}
use Rattle.law.proofs.Changes.{changed_same}
use Rattle.law.proofs.Ledger.{flag, GrantKept, grant_still, LedgerKept, Ends, settle_ends, expiry_ends, ledger_ended}
use Rattle.law.proofs.Kept.{Host, streams_at, scheduler_of, Kept, controller_still, scheduler_at}
use Rattle.law.proofs.Streaming.{Next, parts_still, kept_with, kept_nothing, kept_passed}

pub slot_set : (rs : List Row) (g : ℕ) (r : Row) → g < length rs → slot_of (set rs g r) g ≡ r.slot
slot_set rs g r l = get_or-map (λ x. x.slot) (set rs g r) g blank_row 0 (omega (arith, length-set rs g r)) ∙ ap (λ x. x.slot) (get_or-set_same rs g r blank_row l)

pub bytes_set : (rs : List Row) (g : ℕ) (r : Row) → g < length rs → bytes_of (set rs g r) g ≡ r.granted
bytes_set rs g r l = get_or-map (λ x. x.granted) (set rs g r) g blank_row 0 (omega (arith, length-set rs g r)) ∙ ap (λ x. x.granted) (get_or-set_same rs g r blank_row l)

pub ledger_marked : {R : ℕ} {h : History} {rs : List Row} → LedgerKept R h rs → (g : ℕ) (r : Row) → g < length rs → r.slot ≡ (row rs g).slot → r.granted ≡ (row rs g).granted → r.fate ≡ (row rs g).fate → LedgerKept R h (set rs g r)
ledger_marked {R} {h} {rs} K g r l slot_same granted_same fate-same =
    let same : GrantKept h (row rs g) g → GrantKept h r g = λ G. grant_still G slot_same granted_same (ap (λ x. ends h g + flag (is_open x)) fate-same ∙ G.once) (λ i. refl) in
    record {
      size = length-set rs g r ∙ K.size;
      room = K.room;
      grants = λ j m. at_set rs g j r blank_row (λ _ x y. x < issued h → GrantKept h y x) l (λ m. same (K.grants g m)) (λ _. K.grants j) m;
      unissued = K.unissued;
      open_is = K.open_is;
      bounded = K.bounded;
    }

-- whatever the order, the place that is found takes part
module _ {X : Type 0} (takes : X → Bool) (upto : X → X → Bool) where
  abbrev Found : List X → Option ℕ → Type 0
  Found xs None = Unit {0}
  Found xs (Some b) = (b < length xs) × ((x : X) → takes (get_or xs b x) ≡ true)

  found_shifted : (x : X) (xs : List X) (o : Option ℕ) → Found xs o → Found (x ∷ xs) (shifted o)
  found_shifted x xs None p = tt
  found_shifted x xs (Some b) p = (omega (arith, p.0), p.1)

  found_against : (x : X) (xs : List X) (o : Option ℕ) → takes x ≡ true → Found xs o → Found (x ∷ xs) (against upto x xs o)
  found_against x xs None e p = (omega arith, λ _. e)
  found_against x xs (Some b) e p = cond_both (upto x (get_or xs b x)) _ _ (Found (x ∷ xs)) (λ _. (omega arith, λ _. e)) (λ _. (omega (arith, p.0), p.1))

  pub found_takes : (xs : List X) → Found xs (first_least takes upto xs)
  found_takes [] = tt
  found_takes (x ∷ xs) =
      cond_both (takes x) _ _ (Found (x ∷ xs))
      (λ e. found_against x xs (first_least takes upto xs) e (found_takes xs))
      (λ _. found_shifted x xs (first_least takes upto xs) (found_takes xs))

-- the slot of a row that is covered is open, with open bytes enough
covered_parts : (m : Core) (x : Row) → grants.is_covered m x ≡ true → (x.slot < 32) × ((core.stream m x.slot).opened ≡ true) × (x.granted ≤ (core.stream m x.slot).reserved)
covered_parts m x e =
    let near = and_parts (ltb x.slot 32) _ e in
    let rest = and_parts (core.stream m x.slot).opened _ near.1 in
    (ltb-true _ 32 near.0, rest.0, leb-true _ _ rest.1)

module _ {C S : Type 0} (H : Host C S) (laws : SchedulingLaws 32 H.scheduling) (h : History) (s : State C S) (K : Kept H h s) where
  abbrev at_slot : ℕ → Stream
  at_slot i = core.stream s.core i

  -- the row that expire finds
  pub found_due : (t g : ℕ) → grants.due s.core s.rows t ≡ Some g → (g < issued h) × (is_open (row s.rows g).fate ≡ true)
  found_due t g e =
      let xs = take s.core.issued s.rows in
      let f = subst (λ o. Found (is_due t) due_upto xs o) e (found_takes (is_due t) due_upto xs) in
      let l : g < s.core.issued = omega (arith, f.0, length-take s.core.issued s.rows) in
      (omega (arith, K.issued_is), (and_parts _ _ (ap (is_due t) (sym (get_or-take s.core.issued s.rows g blank_row l)) ∙ f.1 blank_row)).0)

  pub next_take_up : (t g : ℕ) → Next H h (TakeUp t g) (step H.control H.scheduling s (TakeUp t g))
  next_take_up t g =
      take_up_cases H.control H.scheduling s (Next H h (TakeUp t g)) t g (λ n _. kept_nothing H laws h s K) (λ _ n _. kept_nothing H laws h s K)
      (λ p _.
      let l = ltb-true g (length s.rows) (and_parts _ _ p.1.1.0).1 in
      let P = kept_passed H laws h s K t in
      kept_with H laws h s K (Passed t) _ refl refl refl P.issued_is P.streams (ledger_marked P.ledger g (taken_up (row s.rows g)) l refl refl refl) P.parts)

  -- the grant g ends by the booking e, and its slot has the record x then
  module _ (t g : ℕ) (there : g < issued h) (live : is_open (row s.rows g).fate ≡ true) where
    abbrev ending : Row
    ending = row s.rows g

    kept_ended : (e : Booking) → Ends g ending.granted e → ((n : ℕ) (c : C) → told H.control t n c (Booked e) ≡ c) → ((f : ℕ) (x : S) → picked_at H.scheduling f x (Booked e) ≡ x)
        → (x : Stream) → SlotKept H.macroflows x (Booked e ∷ of_slot h ending.slot) → ((f : ℕ) → stream.waits_in (at_slot ending.slot) f ≡ stream.waits_in x f)
        → (r : Row) → r.slot ≡ ending.slot → r.granted ≡ ending.granted → is_open r.fate ≡ false
        → Kept H (AtSlot t ending.slot (Booked e) ∷ h) (state (put s.core t ending.slot x) s.controllers s.schedulers (set s.rows g r))
    kept_ended e E untold unpicked x new same r slot_same granted_same over =
        let i = ending.slot in
        let near = (K.ledger.grants g there).within in
        let old = K.streams.slots i near in
        kept_with H laws h s K (AtSlot t i (Booked e)) _ refl refl refl (omega (arith, K.issued_is, E.no_grant)) (streams_at K.streams t i (Booked e) x near new)
        (ledger_ended K.ledger t g ending.granted e E there live refl r slot_same granted_same over)
        (parts_still H laws h s K (AtSlot t i (Booked e))
        (λ f. controller_still H h t i (Booked e) f untold)
        (λ f.
        scheduler_at H h t i (Booked e) f (at_slot i) x near old new
        ∙ changed_same H.scheduling (picked_at H.scheduling f (scheduler_of H h f) (Booked e)) i x.weight _ _ (same f)
        ∙ unpicked f (scheduler_of H h f)))

    -- the same, where slot and bytes are read from the row as it was written
    as_written : (e : ℕ → Booking) → Ends g ending.granted (e ending.granted) → ((n : ℕ) (c : C) → told H.control t n c (Booked (e ending.granted)) ≡ c) → ((f : ℕ) (x : S) → picked_at H.scheduling f x (Booked (e ending.granted)) ≡ x)
        → (x : Stream) → SlotKept H.macroflows x (Booked (e ending.granted) ∷ of_slot h ending.slot) → ((f : ℕ) → stream.waits_in (at_slot ending.slot) f ≡ stream.waits_in x f)
        → (r : Row) → r.slot ≡ ending.slot → r.granted ≡ ending.granted → is_open r.fate ≡ false
        → Kept H (AtSlot t (slot_of (set s.rows g r) g) (Booked (e (bytes_of (set s.rows g r) g))) ∷ h) (state (put s.core t ending.slot x) s.controllers s.schedulers (set s.rows g r))
    as_written e E untold unpicked x new same r slot_same granted_same over =
        let l : g < length s.rows = omega (arith, K.ledger.size, K.ledger.room) in
        let after : State C S = state (put s.core t ending.slot x) s.controllers s.schedulers (set s.rows g r) in
        subst (λ i. Kept H (AtSlot t i (Booked (e (bytes_of (set s.rows g r) g))) ∷ h) after) (sym (slot_set s.rows g r l ∙ slot_same))
        (subst (λ b. Kept H (AtSlot t ending.slot (Booked (e b)) ∷ h) after) (sym (bytes_set s.rows g r l ∙ granted_same)) (kept_ended (e ending.granted) E untold unpicked x new same r slot_same granted_same over))

  settled_over : (r : Row) (n t : ℕ) → is_open (settled_row r n t).fate ≡ false
  settled_over r n t = cond_both (eqb n 0) _ _ (λ fate. is_open fate ≡ false) (λ _. refl) (λ _. refl)

  pub next_settle : (t g n : ℕ) → Next H h (Settle t g n) (step H.control H.scheduling s (Settle t g n))
  next_settle t g n =
      settle_cases H.control H.scheduling s (Next H h (Settle t g n)) t g n (λ k _. kept_nothing H laws h s K) (λ _ k _. kept_nothing H laws h s K)
      (λ p q.
      let m = s.core in
      let x = row s.rows g in
      let there : g < issued h = omega (arith, ltb-true g m.issued (and_parts _ _ p.1.1.0).0, K.issued_is) in
      let covered = covered_parts m x q.1.0 in
      let most = leb-true n x.granted q.1.1.0 in
      let old = K.streams.slots x.slot covered.0 in
      let new = kept_settled old g x.granted n t (sym old.opened_is ∙ covered.1) most covered.2 in
      as_written t g there q.0 (λ b. Settled g b n) (settle_ends g x.granted n most) (λ _ c. refl) (λ f y. refl) (stream.settled (at_slot x.slot) x.granted n t) new (λ f. refl) (settled_row x n t) refl refl (settled_over x n t))

  pub next_expire : (t : ℕ) → Next H h (Expire t) (step H.control H.scheduling s (Expire t))
  next_expire t =
      expire_cases H.control H.scheduling s (Next H h (Expire t)) t (λ n _. kept_nothing H laws h s K) (kept_passed H laws h s K t) (λ g _ n _. kept_nothing H laws h s K)
      (λ g due q.
      let m = s.core in
      let x = row s.rows g in
      let found = found_due t g due in
      let covered = covered_parts m x q.0 in
      let old = K.streams.slots x.slot covered.0 in
      let new = kept_expired old g x.granted (sym old.opened_is ∙ covered.1) covered.2 in
      as_written t g found.0 found.1 (λ b. Expired g b) (expiry_ends g x.granted) (λ _ c. refl) (λ f y. refl) (stream.expired (at_slot x.slot) x.granted) new (λ f. refl) (expired_row x t) refl refl refl)
