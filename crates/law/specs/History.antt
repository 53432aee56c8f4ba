-- What is so of a run by its history, which is what the calls did, the newest first. Assumes nothing.
--   History           what the calls did
--   of_slot h i       what happened to the slot i
--   is_in h f i       whether the slot i is open in the macroflow f
--   waits_in h f i    whether it waits there
--   last_time h       the time of the last accepted call
--   issued h          how many grants were issued
--   grants_to h i     how many of them went to the slot i
--   grants_in h f     how many of them were issued in the macroflow f
--   ends h g          how often the grant g has ended: by an accepted settle, or by the expiry that names it
--   open_bytes h i    the bytes of the grants to the slot i that have not ended
--   load h f          outstanding and open bytes over the slots of the macroflow f
--   flight h f        outstanding bytes there
--   controller h f    the controller of f, told each accepted report there and no other
--   scheduler h f     the scheduler of f, told who begins and who ceases to wait there, and the picks there
use Rattle.std.specs.Prelude.{ℕ, zero, suc, ◌+◌, Bool, cond, ◌&&◌, List, [], ◌∷◌, ◌==◌, slice_index_or}
use Rattle.meaning.specs.declared.report.Report.{Report}
use Rattle.meaning.specs.Control.{Control}
use Rattle.meaning.specs.Scheduling.{Scheduling}
use Rattle.stream_calls.specs.declared.reporting.Feedback.{Feedback}
use Rattle.law.specs.Effects.{Booking, SlotEvent, Effect}
use Rattle.law.specs.Effects.Booking.{Granted, Settled, Expired, Reported}
use Rattle.law.specs.Effects.SlotEvent.{Opened, Moved, Closed, Requested, Booked}
use Rattle.law.specs.Effects.Effect.{Nothing, Passed, AtSlot, Merged}
use Rattle.law.specs.Slots.{is_open, place, weight, waits, is_grant, grants, outstanding}

abbrev pub History : Type 0
History = List Effect

abbrev pub open_in : ℕ → List SlotEvent → Bool
open_in f es = is_open es && place es == f

-- a merge moves every slot that is open in the macroflow
abbrev pub of_slot : History → ℕ → List SlotEvent
of_slot [] i = []
of_slot (Nothing ∷ h) i = of_slot h i
of_slot (Passed t ∷ h) i = of_slot h i
of_slot (AtSlot t k e ∷ h) i = cond (k == i) (e ∷ of_slot h i) (of_slot h i)
of_slot (Merged t from into ∷ h) i = cond (open_in from (of_slot h i)) (Moved into ∷ of_slot h i) (of_slot h i)

abbrev pub is_in : History → ℕ → ℕ → Bool
is_in h f i = open_in f (of_slot h i)

abbrev pub waits_in : History → ℕ → ℕ → Bool
waits_in h f i = is_in h f i && waits (of_slot h i)

abbrev pub last_time : History → ℕ
last_time [] = 0
last_time (Nothing ∷ h) = last_time h
last_time (Passed t ∷ h) = t
last_time (AtSlot t i e ∷ h) = t
last_time (Merged t from into ∷ h) = t

-- a number that each event of a slot adds, summed over the history
abbrev pub summed : (SlotEvent → ℕ) → History → ℕ
summed n [] = 0
summed n (Nothing ∷ h) = summed n h
summed n (Passed t ∷ h) = summed n h
summed n (AtSlot t i e ∷ h) = summed n h + n e
summed n (Merged t from into ∷ h) = summed n h

abbrev pub booked : (Booking → ℕ) → SlotEvent → ℕ
booked n (Opened f w) = 0
booked n (Moved f) = 0
booked n Closed = 0
booked n Requested = 0
booked n (Booked b) = n b

abbrev pub issued : History → ℕ
issued h = summed (booked is_grant) h

abbrev pub grants_to : History → ℕ → ℕ
grants_to h i = grants (of_slot h i)

abbrev pub is_grant_in : ℕ → Booking → ℕ
is_grant_in f (Granted k g b) = cond (k == f) 1 0
is_grant_in f (Settled g b n) = 0
is_grant_in f (Expired g b) = 0
is_grant_in f (Reported r) = 0

abbrev pub grants_in : History → ℕ → ℕ
grants_in h f = summed (booked (is_grant_in f)) h

abbrev pub is_end_of : ℕ → Booking → ℕ
is_end_of g (Granted f k b) = 0
is_end_of g (Settled k b n) = cond (k == g) 1 0
is_end_of g (Expired k b) = cond (k == g) 1 0
is_end_of g (Reported r) = 0

abbrev pub ends : History → ℕ → ℕ
ends h g = summed (booked (is_end_of g)) h

-- the bytes of a grant that has not ended
abbrev pub not_ended : History → Booking → ℕ
not_ended h (Granted f g b) = cond (ends h g == 0) b 0
not_ended h (Settled g b n) = 0
not_ended h (Expired g b) = 0
not_ended h (Reported r) = 0

abbrev pub sum_of : (SlotEvent → ℕ) → List SlotEvent → ℕ
sum_of n [] = 0
sum_of n (e ∷ es) = sum_of n es + n e

abbrev pub open_bytes : History → ℕ → ℕ
open_bytes h i = sum_of (booked (not_ended h)) (of_slot h i)

-- n 0 + .. + n (k - 1)
unfoldable pub sum_to : ℕ → (ℕ → ℕ) → ℕ
sum_to zero n = 0
sum_to (suc k) n = sum_to k n + n k

abbrev pub load : History → ℕ → ℕ
load h f = sum_to 32 (λ i. cond (is_in h f i) (outstanding (of_slot h i) + open_bytes h i) 0)

abbrev pub flight : History → ℕ → ℕ
flight h f = sum_to 32 (λ i. cond (is_in h f i) (outstanding (of_slot h i)) 0)

-- a report at the time t, with the bytes that were outstanding there before it
abbrev pub report_of : ℕ → Feedback → ℕ → Report
report_of t b n = record { received = b.received; lost = b.lost; mode = b.mode; sample = b.sample; flight = n; time = t }

module _ {C : Type 0} (k : Control C) where
  abbrev pub told_by : ℕ → ℕ → C → Booking → C
  told_by t n c (Granted f g b) = c
  told_by t n c (Settled g b sent) = c
  told_by t n c (Expired g b) = c
  told_by t n c (Reported b) = k.told c (report_of t b n)

  abbrev pub told : ℕ → ℕ → C → SlotEvent → C
  told t n c (Opened f w) = c
  told t n c (Moved f) = c
  told t n c Closed = c
  told t n c Requested = c
  told t n c (Booked b) = told_by t n c b

module _ {C : Type 0} (k : Control C) (controllers : List C) where
  abbrev pub controller : History → ℕ → C
  controller [] f = slice_index_or controllers f k.spare
  controller (Nothing ∷ h) f = controller h f
  controller (Passed t ∷ h) f = controller h f
  controller (AtSlot t i e ∷ h) f = cond (is_in h f i) (told k t (flight h f) (controller h f) e) (controller h f)
  controller (Merged t from into ∷ h) f = controller h f

module _ {S : Type 0} (d : Scheduling S) where
  -- one slot, which waited before or not, and waits now or not
  abbrev pub changed : S → ℕ → ℕ → Bool → Bool → S
  changed s i w before now = cond now (cond before s (d.raised s i w)) (cond before (d.lowered s i) s)

  -- each slot below n, the lowest first: one that begins to wait is raised with its weight, one that ceases is lowered
  unfoldable pub changed_to : ℕ → (ℕ → Bool) → (ℕ → Bool) → (ℕ → ℕ) → S → S
  changed_to zero before now w s = s
  changed_to (suc n) before now w s = changed (changed_to n before now w s) n (w n) (before n) (now n)

  -- a grant in the macroflow is a pick of its scheduler
  abbrev pub picked_by : ℕ → S → Booking → S
  picked_by f s (Granted k g b) = cond (k == f) (d.turned s) s
  picked_by f s (Settled g b n) = s
  picked_by f s (Expired g b) = s
  picked_by f s (Reported b) = s

  abbrev pub picked_at : ℕ → S → SlotEvent → S
  picked_at f s (Opened k w) = s
  picked_at f s (Moved k) = s
  picked_at f s Closed = s
  picked_at f s Requested = s
  picked_at f s (Booked b) = picked_by f s b

  abbrev pub picked : ℕ → S → Effect → S
  picked f s Nothing = s
  picked f s (Passed t) = s
  picked f s (AtSlot t i e) = picked_at f s e
  picked f s (Merged t from into) = s

module _ {S : Type 0} (d : Scheduling S) (schedulers : List S) where
  abbrev pub scheduler : History → ℕ → S
  scheduler [] f = slice_index_or schedulers f d.spare
  scheduler (e ∷ h) f = changed_to d 32 (waits_in h f) (waits_in (e ∷ h) f) (λ i. weight (of_slot (e ∷ h) i)) (picked d f (scheduler h f) e)
