-- The two levels of a class tree, of which no more is known than that they are schedulers.
--   Levels  a scheduler of 4 classes with bound 24, and one of the 8 slots of a class with bound 56
--   Tree    a state: that of the classes, and that of the slots of each class
use Rattle.std.specs.Prelude.{◌≡◌, ℕ, false, List}
use Rattle.meaning.specs.Scheduling.{Scheduling, SchedulingLaws}

pub record Levels : Type 1 where
  pub Outer : Type 0
  pub Inner : Type 0
  pub outer : Scheduling Outer
  pub inner : Scheduling Inner
  pub outer_laws : SchedulingLaws 4 outer
  pub inner_laws : SchedulingLaws 8 inner
  pub outer_bound : (s : Outer) → outer.bound s ≡ 24
  pub inner_bound : (s : Inner) → inner.bound s ≡ 56
  -- a class in which no slot waits
  pub fresh : Inner
  pub fresh_idle : (i : ℕ) → inner.waits fresh i ≡ false

pub record Tree (k : Levels) : Type 0 where
  pub classes : k.Outer
  pub slots : List k.Inner
