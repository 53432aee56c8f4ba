-- A stream's record against what happened to its slot.
--   ended           the bytes of the slot's grants that have ended
--   SlotKept       the record tells what happened to the slot, and its numbers are in order
--   kept_none       so it is of a slot that was never opened
--   kept_opened, kept_requested, kept_granted, kept_settled, kept_expired, kept_reported, kept_moved, kept_closed
--                   so it stays with one thing more that happens to the slot
--   outstanding_is  the record's outstanding bytes are those of the history
--   waits_is        the record waits where the history does
use Rattle.std.proofs.Common.{◌≡◌, ℕ, ◌+◌, ◌-◌, ◌<◌, ◌≤◌, true, false, cond, ◌&&◌, eqb, ltb, List, [], ◌∷◌, ap₂, arith}
use Rattle.std.proofs.lemmas.Bool.{cases_Bool, eqb-true, lt-ltb, le-ltb, ltb-true, ltb-false, cond_both}
use Rattle.tables.specs.declared.stream.Stream.{Stream}
use Rattle.tables.specs.Streams as stream
use Rattle.stream_calls.specs.declared.reporting.Feedback.{Feedback}
use Rattle.law.specs.Effects.{SlotEvent}
use Rattle.law.specs.Effects.Booking.{Granted, Settled, Expired, Reported}
use Rattle.law.specs.Effects.SlotEvent.{Opened, Moved, Closed, Requested, Booked}
use Rattle.law.specs.Slots.{is_open, place, weight, since_opening, requests, grants, waits, granted, charged, unused, returned, expired, received, lost, outstanding, abandoned}
use Rattle.law.specs.History.{open_in}

abbrev pub ended : List SlotEvent → ℕ
ended es = charged es + unused es + returned es + expired es

-- over F macroflows
pub record SlotKept (F : ℕ) (s : Stream) (es : List SlotEvent) : Type 0 where
  pub opened_is : s.opened ≡ is_open es
  pub macroflow_is : s.macroflow ≡ place es
  pub weight_is : s.weight ≡ weight es
  pub charged_is : s.charged ≡ charged es
  pub received_is : s.received ≡ received es
  pub lost_is : s.lost ≡ lost es
  pub abandoned_is : s.abandoned ≡ abandoned es
  pub reserved_is : s.reserved + ended es ≡ granted es
  pub balance : s.charged ≡ s.received + s.lost + s.abandoned + s.outstanding
  pub few : s.waiting ≤ 255
  -- while it is open
  pub waiting_is : is_open es ≡ true → s.waiting + grants (since_opening es) ≡ requests (since_opening es)
  pub outstanding_then : is_open es ≡ true → s.outstanding + (received (since_opening es) + lost (since_opening es)) ≡ charged (since_opening es)
  pub life : is_open es ≡ true → s.life ≤ 60000000
  pub placed : is_open es ≡ true → (place es < F) × (1 ≤ weight es) × (weight es ≤ 8)
  -- while it is closed
  pub idle : is_open es ≡ false → s.waiting ≡ 0
  pub unreserved : is_open es ≡ false → s.reserved ≡ 0
  pub settled_up : is_open es ≡ false → s.outstanding ≡ 0

pub kept_none : (F : ℕ) → SlotKept F stream.no_stream []
kept_none F = search arith

-- what a settle with n of b bytes adds to the ended bytes
pub ends_whole : (b n : ℕ) → n ≤ b → n + cond (eqb n 0) 0 (b - n) + cond (eqb n 0) b 0 ≡ b
ends_whole b n l = grind (arith, cases_Bool (eqb n 0), eqb-true n 0)

-- each thing more that happens to a slot: every field of the record follows from those before it
module _ {F : ℕ} {s : Stream} {es : List SlotEvent} (K : SlotKept F s es) where
  pub outstanding_is : s.outstanding ≡ outstanding es
  outstanding_is =
      cond_both (is_open es) _ _ (λ n. s.outstanding ≡ n) (λ e. omega (arith, K.outstanding_then e)) K.settled_up

  pub kept_opened : (f w l t : ℕ) → is_open es ≡ false → f < F → 1 ≤ w → w ≤ 8 → l ≤ 60000000 → SlotKept F (stream.opened s f w l t) (Opened f w ∷ es)
  kept_opened f w l t shut there least most lasts = search (arith, K, K.unreserved shut, K.settled_up shut)

  pub kept_requested : (t : ℕ) → is_open es ≡ true → s.waiting < 255 → SlotKept F (stream.requested s t) (Requested ∷ es)
  kept_requested t on few = search (arith, K)

  pub kept_granted : (f g b : ℕ) → is_open es ≡ true → 0 < s.waiting → SlotKept F (stream.granted s b) (Booked (Granted f g b) ∷ es)
  kept_granted f g b on some = search (arith, K)

  pub kept_settled : (g b n t : ℕ) → is_open es ≡ true → n ≤ b → b ≤ s.reserved → SlotKept F (stream.settled s b n t) (Booked (Settled g b n) ∷ es)
  kept_settled g b n t on most covered = search (arith, K, ends_whole b n most)

  pub kept_expired : (g b : ℕ) → is_open es ≡ true → b ≤ s.reserved → SlotKept F (stream.expired s b) (Booked (Expired g b) ∷ es)
  kept_expired g b on covered = search (arith, K)

  pub kept_reported : (b : Feedback) (t : ℕ) → is_open es ≡ true → b.received + b.lost ≤ s.outstanding → SlotKept F (stream.reported s b.received b.lost t) (Booked (Reported b) ∷ es)
  kept_reported b t on covered = search (arith, K)

  pub kept_moved : (f : ℕ) → f < F → SlotKept F (stream.moved s f) (Moved f ∷ es)
  kept_moved f there = search (arith, K)

  pub kept_closed : s.reserved ≡ 0 → SlotKept F (stream.closed s) (Closed ∷ es)
  kept_closed none = search (arith, K, outstanding_is)

  -- whether it waits, by the record and by the history
  wants_is : is_open es ≡ true → ltb 0 s.waiting ≡ ltb (grants (since_opening es)) (requests (since_opening es))
  wants_is on =
      grind (arith, K.waiting_is on, cases_Bool (ltb 0 s.waiting), ltb-true 0 s.waiting, ltb-false 0 s.waiting, lt-ltb (grants (since_opening es)), le-ltb (grants (since_opening es)))

  pub waits_is : (f : ℕ) → stream.waits_in s f ≡ (open_in f es && waits es)
  waits_is f = grind (arith, K.opened_is, K.macroflow_is, wants_is, cases_Bool (is_open es))

  pub is_in_is : (f : ℕ) → stream.is_in s f ≡ open_in f es
  is_in_is f = ap₂ (λ b m. b && eqb m f) K.opened_is K.macroflow_is
