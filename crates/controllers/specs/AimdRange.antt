-- The ranges that the numbers of byte AIMD keep. Assumes nothing.
--   WindowRange p w     the window lies from one packet to 1,048,576
--   ThresholdRange p t  the threshold lies from two packets to 1,048,576
--   InRange s           all of these, and a count below 1,048,576
use Rattle.std.specs.Prelude.{ℕ, ◌+◌, ◌*◌, ◌<◌, ◌≤◌, nat_le, nat_lt}
use Rattle.std.proofs.Common.{arith}
use Rattle.std.proofs.lemmas.Bool.{cond_both, leb-false}
use Rattle.meaning.specs.declared.report.Mode.{Mode}
use Rattle.meaning.specs.declared.report.Mode.TheVariants.{Clear, Loss, Mark, Silence}
use Rattle.meaning.specs.declared.report.Report.{Report}
use Rattle.controllers.specs.Aimd.{starting_window, fresh, slow_start, avoidance, cut, silenced, step}
use Rattle.controllers.specs.Packets.{PacketRange}
use Rattle.controllers.specs.declared.aimd.state.AimdState.{AimdState}

abbrev pub WindowRange : ℕ → ℕ → Type 0
WindowRange p w = (p ≤ w) × (w ≤ 1048576)

abbrev pub ThresholdRange : ℕ → ℕ → Type 0
ThresholdRange p t = (2 * p ≤ t) × (t ≤ 1048576)

abbrev pub InRange : AimdState → Type 0
InRange s = PacketRange s.packet × WindowRange s.packet s.window × ThresholdRange s.packet s.threshold × (s.count < 1048576)

pub fresh_in_range : (p : ℕ) → PacketRange p → InRange (fresh p)
fresh_in_range p h =
    let w : WindowRange p (starting_window p) =
    cond_both (nat_le p 1095) _ _ (WindowRange p) (λ e. (omega (arith, h), omega (arith, h)))
    (λ _. cond_both (nat_le p 2190) _ _ (WindowRange p) (λ e. (omega (arith, h), omega (arith, h))) (λ _. (omega (arith, h), omega (arith, h)))) in
    (h, w, (omega (arith, h), omega arith), omega arith)

module _ (s : AimdState) (h : InRange s) where
  cut_in_range : (f : ℕ) → InRange (cut s f)
  cut_in_range f = (h.0, (omega (arith, h), omega (arith, h)), (omega (arith, h), omega (arith, h)), omega (arith, h))

  silenced_in_range : (f : ℕ) → InRange (silenced s f)
  silenced_in_range f = (h.0, (omega (arith, h), omega (arith, h)), (omega (arith, h), omega (arith, h)), omega (arith, h))

  slow_start_in_range : (n : ℕ) → InRange (slow_start s n)
  slow_start_in_range n = (h.0, (omega (arith, h), omega (arith, h)), h.2, h.3)

  avoidance_in_range : (n : ℕ) → InRange (avoidance s n)
  avoidance_in_range n =
      cond_both (nat_le s.window (s.count + n)) _ _ InRange
      (λ _. (h.0, (omega (arith, h), omega (arith, h)), h.2, omega (arith, h)))
      (λ e. (h.0, h.1, h.2, omega (arith, h, leb-false s.window (s.count + n) e)))

  pub step_in_range : (r : Report) (m : Mode) → InRange (step s r m)
  step_in_range r Clear =
      cond_both (nat_lt s.window s.threshold) _ _ InRange
      (λ _. slow_start_in_range r.received) (λ _. avoidance_in_range r.received)
  step_in_range r Loss = cut_in_range r.flight
  step_in_range r Mark = cut_in_range r.flight
  step_in_range r Silence = silenced_in_range r.flight
