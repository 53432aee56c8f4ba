-- A stretch of a run is a run of its own.
--   answers_taken    the answers of the picks among the first n events
--   answers_dropped  and of those among the others
--   answers_stretch  so, of those in a stretch
--   state_stretch    the state at a moment of a stretch
use Rattle.std.proofs.Common.{◌≡◌, ℕ, zero, suc, ◌+◌, ◌≤◌, List, [], ◌∷◌, ◌++◌, take, drop, Option, sym, refl, ap, ◌∙◌, take-take, take-add}
use Rattle.meaning.specs.Scheduling.{Scheduling}
use Rattle.fairness.specs.declared.event.Event.{Event}
use Rattle.fairness.specs.declared.event.Event.TheVariants.{Raise, Lower, Pick}
use Rattle.fairness.specs.Events.{stepped, state_after, answers}
use Rattle.fairness.specs.Fair.{stretch, picks_in, answers_in}

module _ {S : Type 0} (k : Scheduling S) where
  answers_taken : (n : ℕ) (s : S) (events : List Event) → take (picks_in (take n events)) (answers k s events) ≡ answers k s (take n events)
  answers_taken zero s events = refl
  answers_taken (suc n) s [] = refl
  answers_taken (suc n) s (Raise slot weight ∷ events) = answers_taken n (k.raised s slot weight) events
  answers_taken (suc n) s (Lower slot ∷ events) = answers_taken n (k.lowered s slot) events
  answers_taken (suc n) s (Pick ∷ events) = ap (λ xs. k.chosen s ∷ xs) (answers_taken n (k.turned s) events)

  answers_dropped : (n : ℕ) (s : S) (events : List Event) → drop (picks_in (take n events)) (answers k s events) ≡ answers k (state_after k s (take n events)) (drop n events)
  answers_dropped zero s events = refl
  answers_dropped (suc n) s [] = refl
  answers_dropped (suc n) s (Raise slot weight ∷ events) = answers_dropped n (k.raised s slot weight) events
  answers_dropped (suc n) s (Lower slot ∷ events) = answers_dropped n (k.lowered s slot) events
  answers_dropped (suc n) s (Pick ∷ events) = answers_dropped n (k.turned s) events

  pub answers_stretch : (start len : ℕ) (s : S) (events : List Event)
      → answers_in start len events (answers k s events) ≡ answers k (state_after k s (take start events)) (stretch start len events)
  answers_stretch start len s events =
      ap (λ (xs : List (Option ℕ)). take (picks_in (stretch start len events)) xs) (answers_dropped start s events)
      ∙ answers_taken len (state_after k s (take start events)) (drop start events)

  state_append : (s : S) (xs ys : List Event) → state_after k s (xs ++ ys) ≡ state_after k (state_after k s xs) ys
  state_append s [] ys = refl
  state_append s (event ∷ xs) ys = state_append (stepped k s event) xs ys

  pub state_stretch : (start len m : ℕ) (s : S) (events : List Event) → m ≤ len
      → state_after k (state_after k s (take start events)) (take m (stretch start len events)) ≡ state_after k s (take (start + m) events)
  state_stretch start len m s events h =
      ap (λ (es : List Event). state_after k (state_after k s (take start events)) es) (take-take m len (drop start events) h)
      ∙ sym (state_append s (take start events) (take m (drop start events)))
      ∙ ap (λ (es : List Event). state_after k s es) (sym (take-add start m events))
