-- What a controller means, and the laws that every controller keeps. Assumes nothing.
--   Control C           what the values of C tell, and what a report makes of them
--   ControlLaws k      what is so of every controller
--   told_all k c rs     the controller c after the reports rs, the first one first
--   paths_after p rs    the path estimate after the samples of the reports in range
use Rattle.std.specs.Prelude.{◌≡◌, ℕ, ◌≤◌, true, false, cond, List, [], ◌∷◌, Option}
use Rattle.meaning.specs.declared.path.PathEstimate.{PathEstimate}
use Rattle.meaning.specs.declared.report.Report.{Report}
use Rattle.meaning.specs.Paths.{path_after}
use Rattle.meaning.specs.Reports.{in_range}

pub record Control (C : Type 0) : Type 0 where
  -- the packet size, the allowance and the path estimate that a controller tells
  pub packet : C → ℕ
  pub allowance : C → ℕ
  pub path : C → Option PathEstimate
  -- the controller after a report
  pub told : C → Report → C
  -- any controller: what a look past the end of a list of them gives
  pub spare : C

pub record ControlLaws {C : Type 0} (k : Control C) : Type 0 where
  -- the packet is 64 to 9,000 bytes, and no report changes it
  pub packet_least : (c : C) → 64 ≤ k.packet c
  pub packet_most : (c : C) → k.packet c ≤ 9000
  pub packet_stays : (c : C) (r : Report) → k.packet (k.told c r) ≡ k.packet c
  -- the allowance lies between one packet and 1,048,576 bytes
  pub allowance_least : (c : C) → k.packet c ≤ k.allowance c
  pub allowance_most : (c : C) → k.allowance c ≤ 1048576
  -- a report in range steps the path estimate by its sample
  pub path_steps : (c : C) (r : Report) → in_range r ≡ true → k.path (k.told c r) ≡ path_after (k.path c) r.sample
  -- a report out of range does nothing at all
  pub ignores : (c : C) (r : Report) → in_range r ≡ false → k.told c r ≡ c

abbrev pub told_all : {C : Type 0} → Control C → C → List Report → C
told_all k c [] = c
told_all k c (r ∷ rs) = told_all k (k.told c r) rs

abbrev pub paths_after : Option PathEstimate → List Report → Option PathEstimate
paths_after p [] = p
paths_after p (r ∷ rs) = paths_after (cond (in_range r) (path_after p r.sample) p) rs
