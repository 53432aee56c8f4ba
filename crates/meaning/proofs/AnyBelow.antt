-- What it is that one of the numbers below n passes a test, or each of them.
--   any_below_some  then there is such a number
--   any_below_none  else each of them fails
--   any_below_true  one that passes is enough
--   any_below_false it fails where each of them does
--   all_fails       not each of them passes where one fails
use Rattle.std.proofs.Common.{◌≡◌, ℕ, zero, suc, ◌<◌, Bool, true, false, ◌&&◌, refl, sym, ap, ◌∙◌, ⊎_elim, arith}
use Rattle.std.proofs.lemmas.Bool.{or_cases, or_parts, or_from, cases_Bool, both_ways, cases_eq, false≢true}
use Rattle.meaning.specs.Below.{any_below, all_below}

pub any_below_some : (n : ℕ) (test : ℕ → Bool) → any_below n test ≡ true → (i : ℕ) × (i < n) × (test i ≡ true)
unfolding any_below
any_below_some zero test e = absurd (false≢true e)
any_below_some (suc n) test e =
    ⊎_elim
    (λ (h : test n ≡ true). (n, omega arith, h))
    (λ (h : any_below n test ≡ true). let x = any_below_some n test h in (x.0, omega arith, x.2))
    (or_cases (test n) (any_below n test) e)

pub any_below_none : (n : ℕ) (test : ℕ → Bool) → any_below n test ≡ false → (i : ℕ) → i < n → test i ≡ false
unfolding any_below
any_below_none zero test e i h = absurd (omega arith)
any_below_none (suc n) test e i h =
    let parts = or_parts (test n) (any_below n test) e in
    ⊎_elim (λ (q : i ≡ n). rw q parts.0) (λ (q : i ≡ n → ⊥). any_below_none n test parts.1 i (omega arith)) (cases_eq i n)

pub any_below_true : (n : ℕ) (test : ℕ → Bool) (i : ℕ) → i < n → test i ≡ true → any_below n test ≡ true
any_below_true n test i h t =
    ⊎_elim
    (λ (b : any_below n test ≡ true). b)
    (λ (b : any_below n test ≡ false). absurd (both_ways (test i) (any_below_none n test b i h) t))
    (cases_Bool (any_below n test))

pub any_below_false : (n : ℕ) (test : ℕ → Bool) → ((i : ℕ) → test i ≡ false) → any_below n test ≡ false
unfolding any_below
any_below_false zero test all = refl
any_below_false (suc n) test all = or_from (test n) (any_below n test) (all n) (any_below_false n test all)

and_right : (a b : Bool) → b ≡ false → (a && b) ≡ false
and_right true b e = e
and_right false b e = refl

pub all_fails : (n i : ℕ) (test : ℕ → Bool) → i < n → test i ≡ false → all_below n test ≡ false
unfolding all_below
all_fails zero i test l h = absurd (omega arith)
all_fails (suc n) i test l h =
    ⊎_elim (λ e. and_right (all_below n test) (test n) (ap test (sym e) ∙ h)) (λ (e : i ≡ n → ⊥). ap (λ b. b && test n) (all_fails n i test (omega arith) h)) (cases_eq i n)
