-- The ranges that the numbers of the rate controller keep. Assumes nothing.
--   RateRange v      the rate lies from 8,000 to 10,000,000
--   InRange s        this, a packet in its range, and a count below 1,048,576
use Rattle.std.specs.Prelude.{ℕ, ◌+◌, ◌<◌, ◌≤◌, nat_le}
use Rattle.std.proofs.Common.{arith}
use Rattle.std.proofs.lemmas.Bool.{cond_both, leb-false}
use Rattle.meaning.specs.declared.report.Mode.{Mode}
use Rattle.meaning.specs.declared.report.Mode.TheVariants.{Clear, Loss, Mark, Silence}
use Rattle.meaning.specs.declared.report.Report.{Report}
use Rattle.controllers.specs.Packets.{PacketRange}
use Rattle.controllers.specs.declared.rate.state.RateState.{RateState}
use Rattle.controllers.specs.Rate.{allowance, fresh, counted, step}

abbrev pub RateRange : ℕ → Type 0
RateRange v = (8000 ≤ v) × (v ≤ 10000000)

abbrev pub InRange : RateState → Type 0
InRange s = PacketRange s.packet × RateRange s.rate × (s.count < 1048576)

pub fresh_in_range : (p : ℕ) → PacketRange p → InRange (fresh p)
fresh_in_range p h = (h, (omega arith, omega arith), omega arith)

module _ (s : RateState) (h : InRange s) where
  counted_in_range : (n : ℕ) → InRange (counted s n)
  counted_in_range n =
      cond_both (nat_le (allowance s) (s.count + n)) _ _ InRange
      (λ _. (h.0, (omega (arith, h), omega (arith, h)), omega arith))
      (λ e. (h.0, h.1, omega (arith, leb-false (allowance s) (s.count + n) e)))

  pub step_in_range : (r : Report) (m : Mode) → InRange (step s r m)
  step_in_range r Clear = counted_in_range r.received
  step_in_range r Loss = (h.0, (omega (arith, h), omega (arith, h)), omega arith)
  step_in_range r Mark = (h.0, (omega (arith, h), omega (arith, h)), omega arith)
  step_in_range r Silence = (h.0, (omega arith, omega arith), omega arith)
