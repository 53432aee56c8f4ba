-- A total order with ties, and the first of those that take part. Assumes nothing.
--   Order upto                        of two one comes no later, and coming no later is passed on
--   First takes upto xs n b           b is the first place, by the order, of the places below n that take part
--   Least takes upto xs n o           o is that place, or absent where nobody below n takes part
--   first_least takes upto xs         the same place over a whole list, worked out from its end
use Rattle.std.specs.Prelude.{◌≡◌, ℕ, suc, ◌<◌, Bool, true, false, cond, List, [], ◌∷◌, Some, None, Option, slice_index_or}

pub record Order {X : Type 0} (upto : X → X → Bool) : Type 0 where
  pub either : (x y : X) → upto x y ≡ false → upto y x ≡ true
  pub passed_on : (x y z : X) → upto x y ≡ true → upto y z ≡ true → upto x z ≡ true

pub record First {X : Type 0} (takes : X → Bool) (upto : X → X → Bool) (xs : List X) (n b : ℕ) : Type 0 where
  pub within : b < n
  pub takes_part : (d : X) → takes (slice_index_or xs b d) ≡ true
  -- nobody that takes part comes before it
  pub least : (k : ℕ) (d : X) → k < n → takes (slice_index_or xs k d) ≡ true → upto (slice_index_or xs b d) (slice_index_or xs k d) ≡ true
  -- and nobody at an earlier place is its equal
  pub first : (k : ℕ) (d : X) → k < b → takes (slice_index_or xs k d) ≡ true → upto (slice_index_or xs k d) (slice_index_or xs b d) ≡ false

abbrev pub Least : {X : Type 0} → (X → Bool) → (X → X → Bool) → List X → ℕ → Option ℕ → Type 0
Least {X} takes upto xs n None = (k : ℕ) (d : X) → k < n → takes (slice_index_or xs k d) ≡ false
Least takes upto xs n (Some b) = First takes upto xs n b

-- a place in a list that has one element more in front
abbrev pub shifted : Option ℕ → Option ℕ
shifted None = None
shifted (Some b) = Some (suc b)

-- x, which takes part, against the first of those after it
abbrev pub against : {X : Type 0} → (X → X → Bool) → X → List X → Option ℕ → Option ℕ
against upto x xs None = Some 0
against upto x xs (Some b) = cond (upto x (slice_index_or xs b x)) (Some 0) (Some (suc b))

abbrev pub first_least : {X : Type 0} → (X → Bool) → (X → X → Bool) → List X → Option ℕ
first_least takes upto [] = None
first_least takes upto (x ∷ xs) = cond (takes x) (against upto x xs (first_least takes upto xs)) (shifted (first_least takes upto xs))
