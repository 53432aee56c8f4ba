-- Ways through tests and questions.
--   by_test        a fact at a test, by cases
--   at_or_off      a fact at k where a test for k passes, and at any other number where it fails
--   at_set         an element of a list after a write at k
--   event_cases    what happened to a slot, with one thing more that happened to the slot k
--   Passes qs      every question is answered 'yes'
--   Refuses qs n   the first question that is answered 'no' has the reason n
--   no_both        not both
--   asked_passes   a call whose questions are all answered 'yes' is not refused
--   answered_cases a call is refused, or every question is answered 'yes' and it acts
use Rattle.std.proofs.Common.{◌≡◌, ℕ, ◌<◌, Bool, true, false, cond, eqb, ◌⊎◌, List, [], ◌∷◌, length, get_or, set, Ok, Err, Result, sym, refl, ap, ◌∙◌, subst, inl, inr, ⊎_elim}
use Rattle.std.proofs.lemmas.List.{get_or-set_same, get_or-set_other}
use Rattle.std.proofs.lemmas.Bool.{eqb-true, eqb-false, true≢false, cond_both}
use Rattle.meaning.specs.declared.refusal.Reason.{Reason}
use Rattle.meaning.specs.declared.refusal.Refusal.{Refusal}
use Rattle.tables.specs.declared.core_state.Core.{Core}
use Rattle.tables.specs.Replies.{Reply, reply, Question, asked, answered}
use Rattle.law.specs.Effects.{SlotEvent}
use Rattle.law.specs.Effects.Effect.{AtSlot}
use Rattle.law.specs.History.{History, of_slot}

pub by_test : (c : Bool) (P : Bool → Type 0) → (c ≡ true → P true) → (c ≡ false → P false) → P c
by_test true P t f = t refl
by_test false P t f = f refl

pub at_or_off : (k i : ℕ) (P : Bool → ℕ → Type 0) → P true k → ((k ≡ i → ⊥) → P false i) → P (eqb k i) i
at_or_off k i P same other =
    by_test (eqb k i) (λ b. P b i) (λ e. subst (P true) (eqb-true k i e) same) (λ e. other (eqb-false k i e))

pub at_set : {X : Type 0} (xs : List X) (k i : ℕ) (y d : X) (P : Bool → ℕ → X → Type 0) → k < length xs → P true k y → ((k ≡ i → ⊥) → P false i (get_or xs i d)) → P (eqb k i) i (get_or (set xs k y) i d)
at_set xs k i y d P l same other =
    at_or_off k i (λ c x. P c x (get_or (set xs k y) x d))
    (subst (P true k) (sym (get_or-set_same xs k y d l)) same)
    (λ ne. subst (P false i) (sym (get_or-set_other xs k i y d (λ e. ne (sym e)))) (other ne))

pub event_cases : (h : History) (t k i : ℕ) (e : SlotEvent) (P : Bool → ℕ → List SlotEvent → Type 0) → P true k (e ∷ of_slot h k) → ((k ≡ i → ⊥) → P false i (of_slot h i)) → P (eqb k i) i (of_slot (AtSlot t k e ∷ h) i)
event_cases h t k i e P same other = at_or_off k i (λ c x. P c x (cond c (e ∷ of_slot h x) (of_slot h x))) same other

abbrev pub Passes : List Question → Type 0
Passes [] = Unit {0}
Passes (x ∷ xs) = (x.holds ≡ true) × Passes xs

unfoldable pub Refuses : List Question → Reason → Type 0
Refuses [] n = ⊥
Refuses (x ∷ xs) n = ((x.holds ≡ false) × (x.reason ≡ n)) ⊎ ((x.holds ≡ true) × Refuses xs n)

pub no_both : (qs : List Question) (n : Reason) → Passes qs → Refuses qs n → ⊥
unfolding Refuses
no_both [] n p w = w
no_both (x ∷ xs) n p w = ⊎_elim (λ no. true≢false (sym p.0 ∙ no.0)) (λ rest. no_both xs n p.1 rest.1) w

pub asked_passes : {X : Type 0} (e : Reason → Refusal) (x : X) (qs : List Question) → Passes qs → asked qs e x ≡ Ok x
asked_passes e x [] p = refl
asked_passes e x (y ∷ ys) p = ap (λ b. cond b (asked ys e x) (Err (e y.reason))) p.0 ∙ asked_passes e x ys p.1

pub answered_cases : {X A T : Type 0} (P : Reply (Result A Refusal) T → Type 0) (e : Reason → Refusal) (x : X) (qs : List Question) (m : Core) (ts : T) (f : X → Reply (Result A Refusal) T)
    → ((n : Reason) → Refuses qs n → P (reply (Err (e n)) m ts)) → (Passes qs → P (f x)) → P (answered (asked qs e x) m ts f)
unfolding Refuses
answered_cases P e x [] m ts f nay yea = yea tt
answered_cases P e x (y ∷ ys) m ts f nay yea =
    cond_both y.holds _ _ (λ r. P (answered r m ts f))
    (λ h. answered_cases P e x ys m ts f (λ n w. nay n (inr (h, w))) (λ p. yea (h, p)))
    (λ h. nay y.reason (inl (h, refl)))
