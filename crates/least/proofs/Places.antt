-- The first least place as a function is the first least place as a fact, and there is one only.
use Rattle.std.proofs.Common.{◌≡◌, ℕ, zero, suc, ◌<◌, Bool, true, false, cond, List, [], ◌∷◌, length, get_or, Some, None, Option, sym, refl, ap, ◌∙◌, ⊎_elim, arith}
use Rattle.std.proofs.lemmas.List.{get_or_default}
use Rattle.std.proofs.lemmas.Bool.{cases_Bool, cases_order, both_ways}
use Rattle.least.specs.Order.{Order, Least, shifted, against, first_least}

pub upto_self : {X : Type 0} {upto : X → X → Bool} → Order upto → (x : X) → upto x x ≡ true
upto_self {upto = upto} o x = ⊎_elim (λ t. t) (λ f. o.either x x f) (cases_Bool (upto x x))

-- what holds at place 0, and at each place after one that is below n, holds below suc n
front : {X : Type 0} {n : ℕ} (P : ℕ → X → Type 0) → ((d : X) → P 0 d) → ((k : ℕ) (d : X) → k < n → P (suc k) d) → (k : ℕ) (d : X) → k < suc n → P k d
front P here later zero d h = here d
front P here later (suc k) d h = later k d (omega arith)

module _ {X : Type 0} (takes : X → Bool) (upto : X → X → Bool) where
  abbrev Whole : List X → Option ℕ → Type 0
  Whole xs r = Least takes upto xs (length xs) r

  skips : (x : X) (xs : List X) (r : Option ℕ) → takes x ≡ false → Whole xs r → Whole (x ∷ xs) (shifted r)
  skips x xs None f p = front _ (λ d. f) p
  skips x xs (Some b) f p = record {
    within = omega (arith, p.within);
    takes_part = λ d. p.takes_part d;
    least = front _ (λ d t. absurd (both_ways (takes x) f t)) p.least;
    first = front _ (λ d t. absurd (both_ways (takes x) f t)) p.first;
  }

  meets : Order upto → (x : X) (xs : List X) (b : ℕ) → takes x ≡ true → Whole xs (Some b) → (u : Bool) → upto x (get_or xs b x) ≡ u → Whole (x ∷ xs) (cond u (Some 0) (Some (suc b)))
  meets o x xs b t p true u = record {
    within = omega arith;
    takes_part = λ d. t;
    least = front _ (λ d h. upto_self o x) (λ k d h s. o.passed_on x (get_or xs b d) (get_or xs k d) (rw (get_or_default xs b d x p.within) u) (p.least k d h s));
    first = λ k d h _. absurd (omega arith);
  }
  meets o x xs b t p false u = record {
    within = omega (arith, p.within);
    takes_part = λ d. p.takes_part d;
    least = front _ (λ d h. o.either x (get_or xs b d) (rw (get_or_default xs b d x p.within) u)) p.least;
    first = front _ (λ d h. rw (get_or_default xs b d x p.within) u) p.first;
  }

  joins : Order upto → (x : X) (xs : List X) (r : Option ℕ) → takes x ≡ true → Whole xs r → Whole (x ∷ xs) (against upto x xs r)
  joins o x xs None t p = record {
    within = omega arith;
    takes_part = λ d. t;
    least = front _ (λ d h. upto_self o x) (λ k d h s. absurd (both_ways (takes (get_or xs k d)) (p k d h) s));
    first = λ k d h _. absurd (omega arith);
  }
  joins o x xs (Some b) t p = meets o x xs b t p (upto x (get_or xs b x)) refl

  one_more : Order upto → (x : X) (xs : List X) (r : Option ℕ) → Whole xs r → (t : Bool) → takes x ≡ t → Whole (x ∷ xs) (cond t (against upto x xs r) (shifted r))
  one_more o x xs r p true t = joins o x xs r t p
  one_more o x xs r p false t = skips x xs r t p

  pub first_least_is : Order upto → (xs : List X) → Whole xs (first_least takes upto xs)
  first_least_is o [] = λ k d h. absurd (omega arith)
  first_least_is o (x ∷ xs) = one_more o x xs (first_least takes upto xs) (first_least_is o xs) (takes x) refl

  one_only : (d : X) (xs : List X) (r s : Option ℕ) → Whole xs r → Whole xs s → r ≡ s
  one_only d xs None None p q = refl
  one_only d xs None (Some c) p q = absurd (both_ways (takes (get_or xs c d)) (p c d q.within) (q.takes_part d))
  one_only d xs (Some b) None p q = absurd (both_ways (takes (get_or xs b d)) (q b d p.within) (p.takes_part d))
  one_only d xs (Some b) (Some c) p q = ⊎_elim
      (λ e. ap Some e)
      (⊎_elim
      (λ lt. absurd (both_ways (upto (get_or xs b d) (get_or xs c d)) (q.first b d lt (p.takes_part d)) (p.least c d q.within (q.takes_part d))))
      (λ gt. absurd (both_ways (upto (get_or xs c d) (get_or xs b d)) (p.first c d gt (q.takes_part d)) (q.least b d p.within (p.takes_part d)))))
      (cases_order b c)

  none_there : (r : Option ℕ) → Whole [] r → r ≡ None
  none_there None p = refl
  none_there (Some b) p = absurd (omega (arith, p.within))

  pub least_only : (xs : List X) (r s : Option ℕ) → Whole xs r → Whole xs s → r ≡ s
  least_only [] r s p q = none_there r p ∙ sym (none_there s q)
  least_only (x ∷ xs) r s p q = one_only x (x ∷ xs) r s p q

  pub place_from_least : Order upto → (xs : List X) (r : Option ℕ) → Whole xs r → r ≡ first_least takes upto xs
  place_from_least o xs r p = least_only xs r (first_least takes upto xs) p (first_least_is o xs)
