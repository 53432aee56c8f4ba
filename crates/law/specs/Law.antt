-- The law over every run, said on the history of its calls and answers. Assumes nothing.
--   Run                            what the host gave, what was called and answered, and what was held at each moment
--   so_far r n                     the history of the first n calls
--   PollsIssueExactly            a poll issues exactly when someone waits, a row is free and one packet fits
--   OnePacketFits                with nothing outstanding or open in a macroflow, one packet fits
--   GrantsGoToThePick          a grant is the next row, of one packet, and goes to the slot that the scheduler picks
--   GrantsEndOnce                a grant ends at most once
--   RowsStay                      the row of a grant that has ended never alters again
--   BooksBalance                  the bytes of each slot add up
--   RecordsAgree                  the record of each slot tells what the history tells
--   PartsAreTold                 each controller and scheduler was told what the history tells, and nothing else
--   BoundedBy b                   who waits in the macroflow f sees at most b f grants to others there
--   WaitsAreBounded              and the scheduler's bound is such a number
--   TablesAreSound               no call finds the tables at odds
--   RefusalsChangeNothing        a refused call leaves all as it was
--   Promises                       all of these together
use Rattle.std.specs.Prelude.{◌≡◌, ℕ, zero, suc, ◌+◌, ◌<◌, ◌≤◌, true, ◌↔◌, List, [], ◌∷◌, length, Some, Ok, Err, ◌≢◌, slice_index_or}
use Rattle.meaning.specs.declared.refusal.Reason.TheVariants.{TablesDisagree}
use Rattle.meaning.specs.declared.refusal.Refusal.{Refusal}
use Rattle.meaning.specs.Control.{Control}
use Rattle.meaning.specs.Scheduling.{Scheduling}
use Rattle.tables.specs.declared.row.Row.{Row}
use Rattle.tables.specs.declared.stream.Stream.{Stream}
use Rattle.grant_calls.specs.declared.polling.Polled.TheVariants.{Granted}
use Rattle.manager.specs.declared.call.Call.{Call}
use Rattle.manager.specs.declared.call.Call.TheVariants.{Poll, Expire}
use Rattle.manager.specs.Answers.{Answer}
use Rattle.manager.specs.declared.call.Told.TheVariants.{Done, Polled}
use Rattle.manager.specs.State.{State}
use Rattle.law.specs.Effects.{slot_of, bytes_of, effect}
use Rattle.law.specs.Slots.{is_open, place, requests, grants, since_opening, granted, charged, unused, returned, expired, received, lost, outstanding, abandoned}
use Rattle.law.specs.History.{History, of_slot, waits_in, last_time, issued, grants_to, grants_in, ends, open_bytes, load, controller, scheduler}

pub record Run (C S : Type 0) : Type 0 where
  -- the number of macroflows, their controllers and schedulers at first, and the number of rows
  pub macroflows : ℕ
  pub controllers : List C
  pub schedulers : List S
  pub rows : ℕ
  -- the calls in their order, and what each was answered
  pub calls : List Call
  pub answers : List Answer
  -- the manager with its tables at first, and after each call
  pub held : ℕ → State C S

-- the call, and the answer, that has so many before it
abbrev pub call : {C S : Type 0} → Run C S → ℕ → Call
call r n = slice_index_or r.calls n (Expire 0)

abbrev pub answer : {C S : Type 0} → Run C S → ℕ → Answer
answer r n = slice_index_or r.answers n (Ok Done)

abbrev pub so_far : {C S : Type 0} → Run C S → ℕ → History
so_far r zero = []
so_far r (suc n) = effect (r.held (suc n)).rows (call r n) (answer r n) ∷ so_far r n

-- a call of the run, and a moment of it: before the first call, or after so many calls
abbrev pub IsCall : {C S : Type 0} → Run C S → ℕ → Type 0
IsCall r n = n < length r.calls

abbrev pub IsMoment : {C S : Type 0} → Run C S → ℕ → Type 0
IsMoment r n = n ≤ length r.calls

abbrev pub Issues : Answer → Type 0
Issues a = (g : ℕ) × (a ≡ Ok (Polled (Granted g)))

abbrev pub InOrder : History → ℕ → Type 0
InOrder h t = (last_time h ≤ t) × (t ≤ 1000000000000000)

abbrev pub SomeoneWaits : History → ℕ → Type 0
SomeoneWaits h f = (i : ℕ) × (i < 32) × (waits_in h f i ≡ true)

module _ {C S : Type 0} (k : Control C) (r : Run C S) where
  -- one packet more is within what the controller allows
  abbrev pub Fits : History → ℕ → Type 0
  Fits h f = let c = controller k r.controllers h f in load h f + k.packet c ≤ k.allowance c

  abbrev pub PollsIssueExactly : Type 0
  PollsIssueExactly =
      (n t f : ℕ) → IsCall r n → call r n ≡ Poll t f
      → Issues (answer r n) ↔ ((f < r.macroflows) × InOrder (so_far r n) t × SomeoneWaits (so_far r n) f × (issued (so_far r n) < r.rows) × Fits (so_far r n) f)

  abbrev pub OnePacketFits : Type 0
  OnePacketFits = (n f : ℕ) → IsMoment r n → load (so_far r n) f ≡ 0 → Fits (so_far r n) f

module _ {C S : Type 0} (k : Control C) (d : Scheduling S) (r : Run C S) where
  abbrev pub GrantsGoToThePick : Type 0
  GrantsGoToThePick =
      (n t f g : ℕ) → IsCall r n → call r n ≡ Poll t f → answer r n ≡ Ok (Polled (Granted g))
      → (g ≡ issued (so_far r n))
      × (bytes_of (r.held (suc n)).rows g ≡ k.packet (controller k r.controllers (so_far r n) f))
      × (d.chosen (scheduler d r.schedulers (so_far r n) f) ≡ Some (slot_of (r.held (suc n)).rows g))

  abbrev pub PartsAreTold : Type 0
  PartsAreTold =
      (n f : ℕ) → IsMoment r n → f < r.macroflows
      → (slice_index_or (r.held n).controllers f k.spare ≡ controller k r.controllers (so_far r n) f)
      × (slice_index_or (r.held n).schedulers f d.spare ≡ scheduler d r.schedulers (so_far r n) f)

module _ {C S : Type 0} (r : Run C S) where
  abbrev pub GrantsEndOnce : Type 0
  GrantsEndOnce = (n g : ℕ) → IsMoment r n → ends (so_far r n) g ≤ 1

  abbrev pub RowsStay : Type 0
  RowsStay =
      (m n g : ℕ) (x : Row) → m ≤ n → IsMoment r n → ends (so_far r m) g ≡ 1
      → slice_index_or (r.held n).rows g x ≡ slice_index_or (r.held m).rows g x

  abbrev pub BooksBalance : Type 0
  BooksBalance =
      (n i : ℕ) → IsMoment r n → let es = of_slot (so_far r n) i in
      (granted es ≡ charged es + unused es + returned es + expired es + open_bytes (so_far r n) i)
      × (charged es ≡ received es + lost es + abandoned es + outstanding es)

  pub record Tells (s : Stream) (h : History) (i : ℕ) : Type 0 where
    pub opened : s.opened ≡ is_open (of_slot h i)
    pub macroflow : s.macroflow ≡ place (of_slot h i)
    pub waiting : is_open (of_slot h i) ≡ true → s.waiting + grants (since_opening (of_slot h i)) ≡ requests (since_opening (of_slot h i))
    pub reserved : s.reserved ≡ open_bytes h i
    pub outstanding : s.outstanding ≡ Rattle.law.specs.Slots.outstanding (of_slot h i)
    pub charged : s.charged ≡ Rattle.law.specs.Slots.charged (of_slot h i)
    pub received : s.received ≡ Rattle.law.specs.Slots.received (of_slot h i)
    pub lost : s.lost ≡ Rattle.law.specs.Slots.lost (of_slot h i)
    pub abandoned : s.abandoned ≡ Rattle.law.specs.Slots.abandoned (of_slot h i)

  abbrev pub RecordsAgree : Type 0
  RecordsAgree = (n i : ℕ) (x : Stream) → IsMoment r n → i < 32 → Tells (slice_index_or (r.held n).core.streams i x) (so_far r n) i

  abbrev pub TablesAreSound : Type 0
  TablesAreSound = (n : ℕ) (e : Refusal) → IsCall r n → answer r n ≡ Err e → e.reason ≢ TablesDisagree

  abbrev pub RefusalsChangeNothing : Type 0
  RefusalsChangeNothing = (n : ℕ) (e : Refusal) → IsCall r n → answer r n ≡ Err e → r.held (suc n) ≡ r.held n

-- through any stretch of moments in which a slot waits in a macroflow and gets no grant, no more grants than the
-- macroflow's bound go to others there
abbrev pub BoundedBy : {C S : Type 0} → (ℕ → ℕ) → Run C S → Type 0
BoundedBy bound r =
    (m n f i : ℕ) → m ≤ n → IsMoment r n → f < r.macroflows
    → ((x : ℕ) → m ≤ x → x ≤ n → waits_in (so_far r x) f i ≡ true)
    → grants_to (so_far r n) i ≡ grants_to (so_far r m) i
    → grants_in (so_far r n) f ≤ grants_in (so_far r m) f + bound f

abbrev pub WaitsAreBounded : {C S : Type 0} → Scheduling S → Run C S → Type 0
WaitsAreBounded d r = BoundedBy (λ f. d.bound (slice_index_or r.schedulers f d.spare)) r

-- all of these together
pub record Promises {C S : Type 0} (k : Control C) (d : Scheduling S) (r : Run C S) : Type 0 where
  pub polls_exactly : PollsIssueExactly k r
  pub packet_fits : OnePacketFits k r
  pub picks : GrantsGoToThePick k d r
  pub bounded : WaitsAreBounded d r
  pub ends_once : GrantsEndOnce r
  pub rows_stay : RowsStay r
  pub balances : BooksBalance r
  pub records : RecordsAgree r
  pub parts : PartsAreTold k d r
  pub sound : TablesAreSound r
  pub refusals : RefusalsChangeNothing r
