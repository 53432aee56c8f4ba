-- What holds of a list's front holds of its first k.
use Rattle.std.proofs.Common.{◌≡◌, ℕ, ◌<◌, ◌≤◌, Bool, List, length, get_or, take, Some, None, Option, arith}
use Rattle.std.proofs.lemmas.List.{get_or-take, length-take-le}
use Rattle.least.specs.Order.{Least}

module _ {X : Type 0} (takes : X → Bool) (upto : X → X → Bool) where
  pub least_of_front : (xs : List X) (k : ℕ) (r : Option ℕ) → k ≤ length xs → Least takes upto (take k xs) (length (take k xs)) r → Least takes upto xs k r
  least_of_front xs k None h p =
      let n : length (take k xs) ≡ k = length-take-le k xs h in
      λ j d lt. let q : j < length (take k xs) = omega arith in rw (← get_or-take k xs j d lt) (p j d q)
  least_of_front xs k (Some b) h p =
      let n : length (take k xs) ≡ k = length-take-le k xs h in
      let bk : b < k = omega (arith, p.within) in
      let at : (j : ℕ) (d : X) → j < k → get_or (take k xs) j d ≡ get_or xs j d = λ j d lt. get_or-take k xs j d lt in
      record {
        within = bk;
        takes_part = λ d. rw (← at b d bk) (p.takes_part d);
        least = λ j d lt t. let q : j < length (take k xs) = omega arith in rw (← at b d bk, ← at j d lt) (p.least j d q (rw (at j d lt) t));
        first = λ j d lt t. let q : j < k = omega arith in rw (← at b d bk, ← at j d q) (p.first j d lt (rw (at j d q) t));
      }
