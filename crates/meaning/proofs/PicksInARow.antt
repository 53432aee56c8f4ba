-- The loop that picks so many times: i picks are made, whose answers stand first in a list of n places.
--   Picked       where the loop stands: the picks that are left lead to what all n picks lead to
--   picked_none  no pick is made yet
--   picked_more  one pick more
--   picked_all   all picks are made
use Rattle.std.proofs.Common.{◌≡◌, ℕ, zero, suc, ◌+◌, ◌-◌, ◌<◌, ◌≤◌, List, [], ◌∷◌, ◌++◌, length, take, set, Option, sym, ap, ◌∙◌, subst, append_assoc, arith, length-set}
use Rattle.std.proofs.lemmas.List.{take_more_set, take_all, append-nil}
use Rattle.meaning.specs.Scheduling.{Scheduling, picks, turned_by}

module _ {S : Type 0} (k : Scheduling S) (n : ℕ) (start : S) where
  pub record Picked (i : ℕ) (now : S) (answers : List (Option ℕ)) : Type 0 where
    pub size : length answers ≡ n
    pub all : take i answers ++ picks k (n - i) now ≡ picks k n start
    pub state : turned_by k (n - i) now ≡ turned_by k n start

  pub picked_none : (answers : List (Option ℕ)) → length answers ≡ n → Picked 0 start answers
  picked_none answers h = let all : n - 0 ≡ n = omega arith in record { size = h; all = ap (λ x. picks k x start) all; state = ap (λ x. turned_by k x start) all }

  left_over : (m : ℕ) (s : S) → 0 < m → (picks k m s ≡ k.chosen s ∷ picks k (m - 1) (k.turned s)) × (turned_by k m s ≡ turned_by k (m - 1) (k.turned s))
  left_over zero s h = absurd (omega arith)
  left_over (suc m) s h = let e : m ≡ suc m - 1 = omega arith in (ap (λ x. k.chosen s ∷ picks k x (k.turned s)) e, ap (λ x. turned_by k x (k.turned s)) e)

  more : (i : ℕ) (now : S) (answers : List (Option ℕ)) → i < n → Picked i now answers → Picked (i + 1) (k.turned now) (set answers i (k.chosen now))
  more i now answers h p =
      let within : i < length answers = omega (arith, p.size) in
      let left = left_over (n - i) now (omega arith) in
      let fewer : n - (i + 1) ≡ n - i - 1 = omega arith in
      record {
        size = length-set answers i (k.chosen now) ∙ p.size;
        all =
            ap (λ xs. xs ++ picks k (n - (i + 1)) (k.turned now)) (take_more_set answers i (k.chosen now) within)
            ∙ append_assoc (take i answers) (k.chosen now ∷ []) (picks k (n - (i + 1)) (k.turned now))
            ∙ ap (λ x. take i answers ++ (k.chosen now ∷ picks k x (k.turned now))) fewer
            ∙ ap (λ xs. take i answers ++ xs) (sym left.0)
            ∙ p.all;
        state = ap (λ x. turned_by k x (k.turned now)) fewer ∙ sym left.1 ∙ p.state;
      }

  pub picked_more : (i : ℕ) (now next : S) (answers : List (Option ℕ)) (answer : Option ℕ) → i < n → next ≡ k.turned now → answer ≡ k.chosen now
      → Picked i now answers → Picked (i + 1) next (set answers i answer)
  picked_more i now next answers answer h turned chosen p =
      subst (λ s. Picked (i + 1) s (set answers i answer)) (sym turned) (subst (λ a. Picked (i + 1) (k.turned now) (set answers i a)) (sym chosen) (more i now answers h p))

  pub picked_all : (i : ℕ) (now : S) (answers : List (Option ℕ)) → n ≤ i → Picked i now answers → (answers ≡ picks k n start) × (now ≡ turned_by k n start)
  picked_all i now answers h p =
      let none : 0 ≡ n - i = omega arith in (
        sym (take_all i answers (omega (arith, p.size)))
            ∙ sym (append-nil (take i answers))
            ∙ ap (λ x. take i answers ++ picks k x now) none
            ∙ p.all,
        ap (λ x. turned_by k x now) none ∙ p.state,
      )
