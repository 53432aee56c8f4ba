-- The rule of the class tree: slot i is place i % 8 of class i / 8.
--   class_weight   the weights of the classes: 8, 4, 2 and 1
--   slot_in        the slot at a place of class c
--   any_waits      whether one of the slots of a class waits
--   slots_of       the slots of class c
--   Sound          there are four classes, and a class waits exactly while one of its slots does
--   waits          whether slot i waits
--   weight         its weight
--   slots_raised   the slots of its class after it is raised
--   class_raised   the classes then: where a slot of the class waits, the class is raised with its own weight
--   raised         the tree after slot i is raised
--   slots_lowered  the slots of its class after it is lowered
--   class_lowered  the classes then: where no slot of the class waits, the class is lowered
--   lowered        the tree after slot i is lowered
--   chosen_in      what a pick answers where the classes' turns give a class, or none: the slot that the turns in that class give
--   chosen         what a pick answers
--   slots_after    the slots after it: those of the class that was picked have turned
--   turned         the tree after it
--   patience       25 times that of the slot in its class, and that of the class
use Rattle.std.specs.Prelude.{◌≡◌, ℕ, zero, suc, ◌+◌, ◌*◌, ◌/◌, ◌%◌, Bool, cond, List, length, Some, None, Option, slice_index_or, slice_set}
use Rattle.meaning.specs.Below.{any_below}
use Rattle.class_tree.specs.Levels.{Levels, Tree}

abbrev pub class_weight : ℕ → ℕ
class_weight zero = 8
class_weight (suc zero) = 4
class_weight (suc (suc zero)) = 2
class_weight (suc (suc (suc c))) = 1

abbrev pub slot_in : ℕ → Option ℕ → Option ℕ
slot_in c (Some p) = Some (c * 8 + p)
slot_in c None = None

module _ (k : Levels) where
  abbrev pub any_waits : k.Inner → Bool
  any_waits m = any_below 8 (k.inner.waits m)

  abbrev pub slots_of : Tree k → ℕ → k.Inner
  slots_of t c = slice_index_or t.slots c k.fresh

  abbrev pub Sound : Tree k → Type 0
  Sound t = (length t.slots ≡ 4) × ((c : ℕ) → k.outer.waits t.classes c ≡ any_waits (slots_of t c))

  abbrev pub waits : Tree k → ℕ → Bool
  waits t i = k.inner.waits (slots_of t (i / 8)) (i % 8)

  abbrev pub weight : Tree k → ℕ → ℕ
  weight t i = k.inner.weight (slots_of t (i / 8)) (i % 8)

  abbrev pub slots_raised : Tree k → ℕ → ℕ → k.Inner
  slots_raised t i w = k.inner.raised (slots_of t (i / 8)) (i % 8) w

  abbrev pub class_raised : k.Outer → ℕ → k.Inner → k.Outer
  class_raised classes c m = cond (any_waits m) (k.outer.raised classes c (class_weight c)) classes

  abbrev pub raised : Tree k → ℕ → ℕ → Tree k
  raised t i w = record { classes = class_raised t.classes (i / 8) (slots_raised t i w); slots = slice_set t.slots (i / 8) (slots_raised t i w) }

  abbrev pub slots_lowered : Tree k → ℕ → k.Inner
  slots_lowered t i = k.inner.lowered (slots_of t (i / 8)) (i % 8)

  abbrev pub class_lowered : k.Outer → ℕ → k.Inner → k.Outer
  class_lowered classes c m = cond (any_waits m) classes (k.outer.lowered classes c)

  abbrev pub lowered : Tree k → ℕ → Tree k
  lowered t i = record { classes = class_lowered t.classes (i / 8) (slots_lowered t i); slots = slice_set t.slots (i / 8) (slots_lowered t i) }

  abbrev pub chosen_in : Tree k → Option ℕ → Option ℕ
  chosen_in t (Some c) = slot_in c (k.inner.chosen (slots_of t c))
  chosen_in t None = None

  abbrev pub chosen : Tree k → Option ℕ
  chosen t = chosen_in t (k.outer.chosen t.classes)

  abbrev pub slots_after : Tree k → Option ℕ → List k.Inner
  slots_after t (Some c) = slice_set t.slots c (k.inner.turned (slots_of t c))
  slots_after t None = t.slots

  abbrev pub turned : Tree k → Tree k
  turned t = record { classes = k.outer.turned t.classes; slots = slots_after t (k.outer.chosen t.classes) }

  abbrev pub patience : Tree k → ℕ → ℕ
  patience t i = 25 * k.inner.patience (slots_of t (i / 8)) (i % 8) + k.outer.patience t.classes (i / 8)
