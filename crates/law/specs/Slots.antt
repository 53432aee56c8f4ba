-- What is so of a slot by what happened to it, the newest first. Assumes nothing.
--   is_open         whether a stream is open in it
--   place           the macroflow where its last open, move or merge put it
--   weight          the weight of its last open
--   since_opening   what happened since it was last opened
--   requests        how many requests there were
--   grants          how many grants
--   waits           while open: whether it has more requests than grants since opening
--   Posting         bytes by account
--   posted          what a booking puts to each account
--   total           what all bookings put to an account
--   granted, charged, unused, returned, expired, received, lost    the totals of the accounts
--   outstanding     bytes sent, and neither received nor lost, since opening; 0 while closed
--   abandoned       what each close found outstanding
use Rattle.std.specs.Prelude.{ℕ, ◌+◌, ◌-◌, Bool, true, false, cond, ◌&&◌, List, [], ◌∷◌, ◌==◌, nat_lt}
use Rattle.law.specs.Effects.{Booking, SlotEvent}
use Rattle.law.specs.Effects.Booking.{Granted, Settled, Expired, Reported}
use Rattle.law.specs.Effects.SlotEvent.{Opened, Moved, Closed, Requested, Booked}

abbrev pub is_open : List SlotEvent → Bool
is_open [] = false
is_open (Opened f w ∷ es) = true
is_open (Moved f ∷ es) = is_open es
is_open (Closed ∷ es) = false
is_open (Requested ∷ es) = is_open es
is_open (Booked b ∷ es) = is_open es

abbrev pub place : List SlotEvent → ℕ
place [] = 0
place (Opened f w ∷ es) = f
place (Moved f ∷ es) = f
place (Closed ∷ es) = place es
place (Requested ∷ es) = place es
place (Booked b ∷ es) = place es

abbrev pub weight : List SlotEvent → ℕ
weight [] = 0
weight (Opened f w ∷ es) = w
weight (Moved f ∷ es) = weight es
weight (Closed ∷ es) = weight es
weight (Requested ∷ es) = weight es
weight (Booked b ∷ es) = weight es

abbrev pub since_opening : List SlotEvent → List SlotEvent
since_opening [] = []
since_opening (Opened f w ∷ es) = []
since_opening (Moved f ∷ es) = Moved f ∷ since_opening es
since_opening (Closed ∷ es) = Closed ∷ since_opening es
since_opening (Requested ∷ es) = Requested ∷ since_opening es
since_opening (Booked b ∷ es) = Booked b ∷ since_opening es

abbrev pub requests : List SlotEvent → ℕ
requests [] = 0
requests (Opened f w ∷ es) = requests es
requests (Moved f ∷ es) = requests es
requests (Closed ∷ es) = requests es
requests (Requested ∷ es) = requests es + 1
requests (Booked b ∷ es) = requests es

abbrev pub is_grant : Booking → ℕ
is_grant (Granted f g b) = 1
is_grant (Settled g b n) = 0
is_grant (Expired g b) = 0
is_grant (Reported r) = 0

abbrev pub grants : List SlotEvent → ℕ
grants [] = 0
grants (Opened f w ∷ es) = grants es
grants (Moved f ∷ es) = grants es
grants (Closed ∷ es) = grants es
grants (Requested ∷ es) = grants es
grants (Booked b ∷ es) = grants es + is_grant b

abbrev pub waits : List SlotEvent → Bool
waits es = is_open es && nat_lt (grants (since_opening es)) (requests (since_opening es))

pub record Posting : Type 0 where
  pub granted : ℕ
  pub charged : ℕ
  pub unused : ℕ
  pub returned : ℕ
  pub expired : ℕ
  pub received : ℕ
  pub lost : ℕ

abbrev pub posting : ℕ → ℕ → ℕ → ℕ → ℕ → ℕ → ℕ → Posting
posting g c u r e x l = record { granted = g; charged = c; unused = u; returned = r; expired = e; received = x; lost = l }

-- to the accounts granted, charged, unused, returned, expired, received and lost
abbrev pub posted : Booking → Posting
posted (Granted f g b) = posting b 0 0 0 0 0 0
posted (Settled g b n) = posting 0 n (cond (n == 0) 0 (b - n)) (cond (n == 0) b 0) 0 0 0
posted (Expired g b) = posting 0 0 0 0 b 0 0
posted (Reported r) = posting 0 0 0 0 0 r.received r.lost

abbrev pub total : (Posting → ℕ) → List SlotEvent → ℕ
total account [] = 0
total account (Opened f w ∷ es) = total account es
total account (Moved f ∷ es) = total account es
total account (Closed ∷ es) = total account es
total account (Requested ∷ es) = total account es
total account (Booked b ∷ es) = total account es + account (posted b)

abbrev pub granted : List SlotEvent → ℕ
granted es = total (λ p. p.granted) es

abbrev pub charged : List SlotEvent → ℕ
charged es = total (λ p. p.charged) es

abbrev pub unused : List SlotEvent → ℕ
unused es = total (λ p. p.unused) es

abbrev pub returned : List SlotEvent → ℕ
returned es = total (λ p. p.returned) es

abbrev pub expired : List SlotEvent → ℕ
expired es = total (λ p. p.expired) es

abbrev pub received : List SlotEvent → ℕ
received es = total (λ p. p.received) es

abbrev pub lost : List SlotEvent → ℕ
lost es = total (λ p. p.lost) es

abbrev pub outstanding : List SlotEvent → ℕ
outstanding es = let now = since_opening es in cond (is_open es) (charged now - (received now + lost now)) 0

abbrev pub abandoned : List SlotEvent → ℕ
abandoned [] = 0
abandoned (Opened f w ∷ es) = abandoned es
abandoned (Moved f ∷ es) = abandoned es
abandoned (Closed ∷ es) = abandoned es + outstanding es
abandoned (Requested ∷ es) = abandoned es
abandoned (Booked b ∷ es) = abandoned es
