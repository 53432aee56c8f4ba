-- A list of things done one after the other, each from where the last one left. Assumes nothing.
--   all_done step s xs         where they lead to
--   all_said step says s xs    what is said by the way
use Rattle.std.specs.Prelude.{List, [], ◌∷◌, ◌++◌}

abbrev pub all_done : {S X : Type 0} → (S → X → S) → S → List X → S
all_done step s [] = s
all_done step s (x ∷ xs) = all_done step (step s x) xs

abbrev pub all_said : {S X A : Type 0} → (S → X → S) → (S → X → List A) → S → List X → List A
all_said step says s [] = []
all_said step says s (x ∷ xs) = says s x ++ all_said step says (step s x) xs
