-- The ledger's rows against the history.
--   bytes_issued g es    the bytes of the grant g among what happened to a slot
--   GrantKept           the row of a grant tells what the history tells of it
--   grant_still         so it stays
--   LedgerKept          so does every row, and the open bytes of each slot add up
--   ledger_none          at first
--   ledger_same          after what issues and ends no grant
--   ledger_granted       after a grant was issued
--   ledger_ended         after a grant has ended
use Rattle.std.proofs.Common.{◌≡◌, ℕ, ◌+◌, ◌*◌, ◌<◌, ◌≤◌, Bool, true, false, cond, eqb, List, [], ◌∷◌, length, set, sym, refl, ap, ◌∙◌, ap₂, arith}
use Rattle.std.proofs.lemmas.List.{length-set}
use Rattle.std.proofs.lemmas.Bool.{cases_Bool, eq-eqb, ne_eqb, cases_eq}
use Rattle.tables.specs.declared.row.Row.{Row}
use Rattle.tables.specs.Rows.{blank_row, is_open, open_row}
use Rattle.grant_calls.specs.Grants.{row}
use Rattle.stream_calls.specs.declared.reporting.Feedback.{Feedback}
use Rattle.law.specs.Effects.{Booking, SlotEvent}
use Rattle.law.specs.Effects.Booking.{Granted, Settled, Expired, Reported}
use Rattle.law.specs.Effects.SlotEvent.{Booked}
use Rattle.law.specs.Effects.Effect.{AtSlot}
use Rattle.law.specs.Slots.{posted, is_grant, granted}
use Rattle.law.specs.History.{History, of_slot, issued, ends, is_end_of, not_ended, booked, sum_of, open_bytes}
use Rattle.law.proofs.Ways.{at_set, event_cases}
use Rattle.law.proofs.SlotFacts.{ended, ends_whole}

-- 1 for yes
abbrev pub flag : Bool → ℕ
flag b = cond b 1 0

abbrev pub bytes_if : ℕ → Booking → ℕ
bytes_if g (Granted f k b) = cond (eqb k g) b 0
bytes_if g _ = 0

abbrev pub bytes_issued : ℕ → List SlotEvent → ℕ
bytes_issued g es = sum_of (booked (bytes_if g)) es

pub record GrantKept (h : History) (r : Row) (g : ℕ) : Type 0 where
  pub within : r.slot < 32
  pub least : 1 ≤ r.granted
  pub most : r.granted ≤ 9000
  -- it has ended, or its row is open
  pub once : ends h g + flag (is_open r.fate) ≡ 1
  -- its bytes went to the slot of its row, and to no other
  pub went : (i : ℕ) → bytes_issued g (of_slot h i) ≡ cond (eqb r.slot i) r.granted 0

-- the same, where its ends and its bytes are told, and its row keeps slot and bytes
pub grant_still : {h h' : History} {r r' : Row} {g : ℕ} → GrantKept h r g → r'.slot ≡ r.slot → r'.granted ≡ r.granted → ends h' g + flag (is_open r'.fate) ≡ 1
    → ((i : ℕ) → bytes_issued g (of_slot h' i) ≡ bytes_issued g (of_slot h i)) → GrantKept h' r' g
grant_still G slot_same granted_same once bytes = record {
  within = omega (arith, G.within);
  least = omega (arith, G.least);
  most = omega (arith, G.most);
  once = once;
  went = λ i. bytes i ∙ G.went i ∙ ap₂ (λ x y. cond (eqb x i) y 0) (sym slot_same) (sym granted_same);
}

-- over R rows
pub record LedgerKept (R : ℕ) (h : History) (rs : List Row) : Type 0 where
  pub size : length rs ≡ R
  pub room : issued h ≤ R
  pub grants : (g : ℕ) → g < issued h → GrantKept h (row rs g) g
  pub unissued : (g : ℕ) → issued h ≤ g → (ends h g ≡ 0) × ((i : ℕ) → bytes_issued g (of_slot h i) ≡ 0)
  pub open_is : (i : ℕ) → granted (of_slot h i) ≡ ended (of_slot h i) + open_bytes h i
  pub bounded : (i : ℕ) → granted (of_slot h i) ≤ 9000 * issued h

pub ledger_none : (R : ℕ) (rs : List Row) → length rs ≡ R → LedgerKept R [] rs
ledger_none R rs e = search arith

-- the same bytes, where the same grants have ended
pub open_same : (h h' : History) → ((g : ℕ) → ends h' g ≡ ends h g) → (es : List SlotEvent) → sum_of (booked (not_ended h')) es ≡ sum_of (booked (not_ended h)) es
open_same h h' e [] = refl
open_same h h' e (Booked (Granted f g b) ∷ es) = ap₂ (λ n m. n + cond (eqb m 0) b 0) (open_same h h' e es) (e g)
open_same h h' e (_ ∷ es) = ap (λ n. n + 0) (open_same h h' e es)

-- less the bytes of the one grant that has ended since
module _ (h h' : History) (g : ℕ) (was : ends h g ≡ 0) (is : (j : ℕ) → ends h' j ≡ ends h j + cond (eqb g j) 1 0) where
  one_less : (j b : ℕ) → cond (eqb (ends h' j) 0) b 0 + cond (eqb j g) b 0 ≡ cond (eqb (ends h j) 0) b 0
  one_less j b = grind (arith, is j, was, cases_eq j g, eq-eqb, ne_eqb)

  pub open_less : (es : List SlotEvent) → sum_of (booked (not_ended h')) es + bytes_issued g es ≡ sum_of (booked (not_ended h)) es
  open_less [] = refl
  open_less (Booked (Granted f j b) ∷ es) = omega (arith, open_less es, one_less j b)
  open_less (_ ∷ es) = omega (arith, open_less es)

-- what books no grant and no end of one
pub record SameBooks (h h' : History) : Type 0 where
  pub issued_same : issued h' ≡ issued h
  pub ends_same : (g : ℕ) → ends h' g ≡ ends h g
  pub granted_same : (i : ℕ) → granted (of_slot h' i) ≡ granted (of_slot h i)
  pub ended_same : (i : ℕ) → ended (of_slot h' i) ≡ ended (of_slot h i)
  pub booked_same : (n : Booking → ℕ) → ((r : Feedback) → n (Reported r) ≡ 0) → (i : ℕ) → sum_of (booked n) (of_slot h' i) ≡ sum_of (booked n) (of_slot h i)

module _ {R : ℕ} {h : History} {rs : List Row} (K : LedgerKept R h rs) where
  pub ledger_same : (h' : History) → SameBooks h h' → LedgerKept R h' rs
  ledger_same h' B =
      let bytes : (g i : ℕ) → bytes_issued g (of_slot h' i) ≡ bytes_issued g (of_slot h i) = λ g i. B.booked_same (bytes_if g) (λ _. refl) i in
      record {
        size = K.size;
        room = omega (arith, B.issued_same, K.room);
        grants = λ g l.
            let G = K.grants g (omega (arith, B.issued_same)) in
            grant_still G refl refl (ap (λ n. n + flag (is_open (row rs g).fate)) (B.ends_same g) ∙ G.once) (bytes g);
        unissued = λ g l. let U = K.unissued g (omega (arith, B.issued_same)) in (B.ends_same g ∙ U.0, λ i. bytes g i ∙ U.1 i);
        open_is = λ i.
            B.granted_same i ∙ K.open_is i
            ∙ ap₂ (λ m n. m + n) (sym (B.ended_same i)) (sym (open_same h h' B.ends_same (of_slot h' i) ∙ B.booked_same (not_ended h) (λ _. refl) i));
        bounded = λ i. omega (arith, B.granted_same i, B.issued_same, K.bounded i);
      }

  module _ (t i f b e : ℕ) (near : i < 32) (free : issued h < R) (least : 1 ≤ b) (most : b ≤ 9000) where
    abbrev new : History
    new = AtSlot t i (Booked (Granted f (issued h) b)) ∷ h

    -- the bytes of a grant, with the new one among them
    new_bytes : (g j : ℕ) → bytes_issued g (of_slot new j) ≡ bytes_issued g (of_slot h j) + cond (eqb i j) (cond (eqb (issued h) g) b 0) 0
    new_bytes g j = event_cases h t i j (Booked (Granted f (issued h) b)) (λ c x es. bytes_issued g es ≡ bytes_issued g (of_slot h x) + cond c (cond (eqb (issued h) g) b 0) 0) refl (λ _. omega arith)

    -- of an older grant, or of one still to come
    other_bytes : (g j : ℕ) → (issued h ≡ g → ⊥) → bytes_issued g (of_slot new j) ≡ bytes_issued g (of_slot h j)
    other_bytes g j ne =
        grind (arith, new_bytes g j, ne_eqb (issued h) g ne, cases_Bool (eqb i j))

    own_bytes : (j : ℕ) → bytes_issued (issued h) (of_slot new j) ≡ cond (eqb i j) b 0
    own_bytes j =
        grind (arith, new_bytes (issued h) j, (K.unissued (issued h) (omega arith)).1 j, eq-eqb (issued h) (issued h) refl)

    fresh : Row
    fresh = open_row i f b t e

    grant_new : GrantKept new fresh (issued h)
    unfolding fresh
    grant_new = record { within = near; least = least; most = most; once = omega (arith, (K.unissued (issued h) (omega arith)).0); went = own_bytes }

    grant_old : (g : ℕ) → (issued h ≡ g → ⊥) → g < issued h → GrantKept new (row rs g) g
    grant_old g ne l =
        let G = K.grants g l in
        grant_still G refl refl (omega (arith, G.once)) (λ j. other_bytes g j ne)

    open_new : (j : ℕ) → open_bytes new j ≡ open_bytes h j + cond (eqb i j) b 0
    open_new j =
        let same = open_same h new (λ g. omega arith) in
        let here : eqb (ends new (issued h)) 0 ≡ true = eq-eqb _ 0 (omega (arith, (K.unissued (issued h) (omega arith)).0)) in
        event_cases h t i j (Booked (Granted f (issued h) b)) (λ c x es. sum_of (booked (not_ended new)) es ≡ open_bytes h x + cond c b 0)
        (ap₂ (λ m c. m + cond c b 0) (same (of_slot h i)) here)
        (λ _. same (of_slot h j) ∙ omega arith)

    books_new : (j : ℕ) → granted (of_slot new j) ≡ ended (of_slot new j) + (open_bytes h j + cond (eqb i j) b 0)
    books_new j =
        event_cases h t i j (Booked (Granted f (issued h) b)) (λ c x es. granted es ≡ ended es + (open_bytes h x + cond c b 0))
        (omega (arith, K.open_is i))
        (λ _. omega (arith, K.open_is j))

    pub ledger_granted : LedgerKept R new (set rs (issued h) (open_row i f b t e))
    unfolding fresh
    ledger_granted = record {
      size = length-set rs (issued h) fresh ∙ K.size;
      room = omega arith;
      grants = λ g l. at_set rs (issued h) g fresh blank_row (λ _ x r. GrantKept new r x) (omega (arith, K.size)) grant_new (λ (ne : issued h ≡ g → ⊥). grant_old g ne (omega arith));
      unissued = λ g l. let U = K.unissued g (omega arith) in (omega (arith, U.0), λ j. other_bytes g j (λ (q : issued h ≡ g). omega arith) ∙ U.1 j);
      open_is = λ j. books_new j ∙ ap (λ n. ended (of_slot new j) + n) (sym (open_new j));
      bounded = λ j.
          event_cases h t i j (Booked (Granted f (issued h) b)) (λ c x es. granted es ≤ 9000 * (issued h + 1))
          (omega (arith, K.bounded i))
          (λ _. omega (arith, K.bounded j));
    }

-- a booking that ends the grant g, of b bytes
pub record Ends (g b : ℕ) (e : Booking) : Type 0 where
  pub no_grant : is_grant e ≡ 0
  pub ends_it : (j : ℕ) → is_end_of j e ≡ cond (eqb g j) 1 0
  pub grants_none : (posted e).granted ≡ 0
  pub ends_all : (posted e).charged + (posted e).unused + (posted e).returned + (posted e).expired ≡ b
  pub issues_none : (j : ℕ) → bytes_if j e ≡ 0
  pub holds_none : (h : History) → not_ended h e ≡ 0

pub settle_ends : (g b n : ℕ) → n ≤ b → Ends g b (Settled g b n)
settle_ends g b n l = search (arith, ends_whole b n l)

pub expiry_ends : (g b : ℕ) → Ends g b (Expired g b)
expiry_ends g b = search arith

module _ {R : ℕ} {h : History} {rs : List Row} (K : LedgerKept R h rs) (t g b : ℕ) (e : Booking) (E : Ends g b e) (there : g < issued h) (live : is_open (row rs g).fate ≡ true) (size_is : (row rs g).granted ≡ b) where
  abbrev after : History
  after = AtSlot t (row rs g).slot (Booked e) ∷ h

  not_yet : ends h g ≡ 0
  not_yet = let o = (K.grants g there).once in let one : flag (is_open (row rs g).fate) ≡ 1 = ap flag live in omega arith

  ends_after : (j : ℕ) → ends after j ≡ ends h j + cond (eqb g j) 1 0
  ends_after j = ap (λ n. ends h j + n) (E.ends_it j)

  bytes_after : (j i : ℕ) → bytes_issued j (of_slot after i) ≡ bytes_issued j (of_slot h i)
  bytes_after j i =
      event_cases h t (row rs g).slot i (Booked e) (λ c x es. bytes_issued j es ≡ bytes_issued j (of_slot h x))
      (omega (arith, E.issues_none j))
      (λ _. refl)

  open_after : (i : ℕ) → open_bytes after i + cond (eqb (row rs g).slot i) b 0 ≡ open_bytes h i
  open_after i =
      let less = open_less h after g not_yet ends_after in
      let went = (K.grants g there).went in
      event_cases h t (row rs g).slot i (Booked e) (λ c x es. sum_of (booked (not_ended after)) es + cond c b 0 ≡ open_bytes h x)
      (grind (arith, less (of_slot h (row rs g).slot), E.holds_none after, went (row rs g).slot, eq-eqb (row rs g).slot (row rs g).slot refl, size_is))
      (λ ne. grind (arith, less (of_slot h i), went i, ne_eqb (row rs g).slot i ne))

  module _ (r : Row) (slot_same : r.slot ≡ (row rs g).slot) (granted_same : r.granted ≡ (row rs g).granted) (over : is_open r.fate ≡ false) where
    grant_ended : GrantKept after r g
    grant_ended =
        let none : flag (is_open r.fate) ≡ 0 = ap flag over in
        let own : flag (eqb g g) ≡ 1 = ap flag (eq-eqb g g refl) in
        grant_still (K.grants g there) slot_same granted_same (omega (arith, ends_after g, not_yet)) (bytes_after g)

    grant_other : (j : ℕ) → (g ≡ j → ⊥) → j < issued h → GrantKept after (row rs j) j
    grant_other j ne l =
        let G = K.grants j l in
        let none : flag (eqb g j) ≡ 0 = ap flag (ne_eqb g j ne) in
        grant_still G refl refl (omega (arith, ends_after j, G.once)) (bytes_after j)

    pub ledger_ended : LedgerKept R after (set rs g r)
    ledger_ended = record {
      size = length-set rs g r ∙ K.size;
      room = omega (arith, E.no_grant, K.room);
      grants = λ j l. at_set rs g j r blank_row (λ _ x y. GrantKept after y x) (omega (arith, K.size, K.room)) grant_ended (λ ne. grant_other j ne (omega (arith, E.no_grant)));
      unissued = λ j l.
          let U = K.unissued j (omega (arith, E.no_grant)) in
          let none : flag (eqb g j) ≡ 0 = ap flag (ne_eqb g j (λ (q : g ≡ j). omega (arith, E.no_grant))) in
          (omega (arith, ends_after j, U.0), λ i. bytes_after j i ∙ U.1 i);
      open_is = λ i.
          let open-now = open_after i in
          event_cases h t (row rs g).slot i (Booked e) (λ c x es. open_bytes after x + cond c b 0 ≡ open_bytes h x → granted es ≡ ended es + open_bytes after x)
          (λ o. omega (arith, K.open_is (row rs g).slot, E.grants_none, E.ends_all))
          (λ _ o. omega (arith, K.open_is i))
          open-now;
      bounded = λ i.
          event_cases h t (row rs g).slot i (Booked e) (λ c x es. granted es ≤ 9000 * (issued h + is_grant e))
          (omega (arith, K.bounded (row rs g).slot, E.grants_none, E.no_grant))
          (λ _. omega (arith, K.bounded i, E.no_grant));
    }
