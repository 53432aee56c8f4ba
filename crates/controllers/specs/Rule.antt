-- The plain numbers of a controller, and the rule by which a report moves them. Assumes nothing.
--   Rule S                      the functions of a rule over the numbers S
--   told k s r                  the numbers s after any report r: its sample is taken, then its mode;
--                               nothing where a number of it is out of range
--   Kept k s t                  from s to t neither the packet nor the path estimate changes
--   RuleLaws k                  what is so of every rule
--   LossNeverGrows k s t r      from s to t by the report r: a loss or a mark never makes the level larger
--   SilenceLeavesLeast k s t r  after silence the level is the least
use Rattle.std.specs.Prelude.{◌≡◌, ℕ, ◌≤◌, Some, Option}
use Rattle.meaning.specs.declared.path.PathEstimate.{PathEstimate}
use Rattle.meaning.specs.declared.report.Mode.{Mode}
use Rattle.meaning.specs.declared.report.Mode.TheVariants.{Loss, Mark, Silence}
use Rattle.meaning.specs.declared.report.Report.{Report}
use Rattle.meaning.specs.Paths.{path_after}
use Rattle.meaning.specs.Reports.{heard, told_by}
use Rattle.controllers.specs.Packets.{PacketRange}

pub record Rule (S : Type 0) : Type 1 where
  -- which numbers can come about
  pub InRange : S → Type 0
  -- the numbers of a new controller with packets of so many bytes
  pub fresh : ℕ → S
  -- the packet size, the allowance and the path estimate that the numbers tell
  pub packet : S → ℕ
  pub allowance : S → ℕ
  pub path : S → Option PathEstimate
  -- the level, which is the window or the rate, and the least that silence leaves of it
  pub level : S → ℕ
  pub least : S → ℕ
  -- the numbers with a report's sample taken
  pub sampled : S → Report → S
  -- the numbers after a report in range with this mode, its sample taken already
  pub step : S → Report → Mode → S

module _ {S : Type 0} (k : Rule S) where
  abbrev pub told : S → Report → S
  told = told_by k.sampled k.step

  abbrev pub Kept : S → S → Type 0
  Kept s t = (k.packet t ≡ k.packet s) × (k.path t ≡ k.path s)

  abbrev pub LossNeverGrows : S → S → Report → Type 0
  LossNeverGrows s t r = (heard r ≡ Some Loss → k.level t ≤ k.level s) × (heard r ≡ Some Mark → k.level t ≤ k.level s)

  abbrev pub SilenceLeavesLeast : S → S → Report → Type 0
  SilenceLeavesLeast s t r = heard r ≡ Some Silence → k.level t ≡ k.least s

pub record RuleLaws {S : Type 0} (k : Rule S) : Type 0 where
  -- numbers are in range in one way at most
  pub range_prop : (s : S) → IsProp (k.InRange s)
  -- then the packet is 64 to 9,000 bytes, and the allowance lies between one packet and 1,048,576 bytes
  pub packet_range : (s : S) → k.InRange s → PacketRange (k.packet s)
  pub allowance_range : (s : S) → k.InRange s → (k.packet s ≤ k.allowance s) × (k.allowance s ≤ 1048576)
  -- a new controller is in range, and its numbers stay so
  pub fresh_in_range : (p : ℕ) → PacketRange p → k.InRange (k.fresh p)
  pub sampled_in_range : (s : S) → k.InRange s → (r : Report) → k.InRange (k.sampled s r)
  pub step_in_range : (s : S) → k.InRange s → (r : Report) (m : Mode) → k.InRange (k.step s r m)
  -- the sample steps the path estimate, and touches nothing else that the numbers tell of
  pub sampled_path : (s : S) (r : Report) → k.path (k.sampled s r) ≡ path_after (k.path s) r.sample
  pub sampled_packet : (s : S) (r : Report) → k.packet (k.sampled s r) ≡ k.packet s
  pub sampled_level : (s : S) (r : Report) → k.level (k.sampled s r) ≡ k.level s
  pub sampled_least : (s : S) (r : Report) → k.least (k.sampled s r) ≡ k.least s
  -- no mode touches the packet or the path estimate
  pub step_keeps : (s : S) (r : Report) (m : Mode) → Kept k s (k.step s r m)
  -- no loss and no mark makes the level larger, and silence leaves the least of it
  pub loss_level : (s : S) → k.InRange s → (r : Report) → k.level (k.step s r Loss) ≤ k.level s
  pub mark_level : (s : S) → k.InRange s → (r : Report) → k.level (k.step s r Mark) ≤ k.level s
  pub silence_level : (s : S) (r : Report) → k.level (k.step s r Silence) ≡ k.least s
