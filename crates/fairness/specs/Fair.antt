-- Fairness, said of the events and of the answers that the picks among them really had.
--   in_range      whether there is such a slot, and the weight is one of 1 to 8
--   waiting       whether a slot waits after the events, if it did or did not before them: a raise of it that is in range makes it
--                 wait, a lower of it ends that, and nothing else matters
--   stretch       so many members of a list, from a place on
--   picks_in      how many of the events are picks
--   answers_in    the answers of the picks in a stretch of the events
--   times_picked  how often the slot is among the answers
--   answered      how many of the answers are some slot
--   Fair          through any stretch in which a slot waits and is not picked, at most as many picks go to others as the bound says
use Rattle.std.specs.Prelude.{◌≡◌, ℕ, suc, ◌+◌, ◌<◌, ◌≤◌, Bool, true, cond, not, ◌&&◌, ◌||◌, List, [], ◌∷◌, take, drop, Some, None, Option, ◌==◌, nat_le, nat_lt}
use Rattle.meaning.specs.Scheduling.{Scheduling}
use Rattle.fairness.specs.declared.event.Event.{Event}
use Rattle.fairness.specs.declared.event.Event.TheVariants.{Raise, Lower, Pick}

abbrev pub in_range : ℕ → ℕ → Bool
in_range slot weight = nat_lt slot 32 && (nat_le 1 weight && nat_le weight 8)

abbrev pub waiting : ℕ → Bool → List Event → Bool
waiting i before [] = before
waiting i before (Raise slot weight ∷ events) = waiting i (before || (i == slot && in_range slot weight)) events
waiting i before (Lower slot ∷ events) = waiting i (before && not (i == slot)) events
waiting i before (Pick ∷ events) = waiting i before events

abbrev pub stretch : {A : Type 0} → ℕ → ℕ → List A → List A
stretch start len xs = take len (drop start xs)

abbrev pub picks_in : List Event → ℕ
picks_in [] = 0
picks_in (Raise slot weight ∷ events) = picks_in events
picks_in (Lower slot ∷ events) = picks_in events
picks_in (Pick ∷ events) = suc (picks_in events)

abbrev pub answers_in : ℕ → ℕ → List Event → List (Option ℕ) → List (Option ℕ)
answers_in start len events answers = stretch (picks_in (take start events)) (picks_in (stretch start len events)) answers

abbrev pub times_picked : ℕ → List (Option ℕ) → ℕ
times_picked i [] = 0
times_picked i (Some slot ∷ answers) = cond (i == slot) 1 0 + times_picked i answers
times_picked i (None ∷ answers) = times_picked i answers

abbrev pub answered : List (Option ℕ) → ℕ
answered [] = 0
answered (Some slot ∷ answers) = suc (answered answers)
answered (None ∷ answers) = answered answers

abbrev pub Fair : {S : Type 0} → Scheduling S → S → List Event → List (Option ℕ) → Type 0
Fair k s events answers =
    (slot start len : ℕ)
    → ((m : ℕ) → m < len → waiting slot (k.waits s slot) (take (start + m) events) ≡ true)
    → times_picked slot (answers_in start len events answers) ≡ 0
    → answered (answers_in start len events answers) ≤ k.bound s
