-- Byte AIMD as a rule, and that it keeps the laws of one. Assumes nothing.
--   aimd_rule   its functions; the level is the window, and silence leaves one packet of it
--   aimd_keeps  the laws
use Rattle.std.specs.Prelude.{◌+◌, nat_le, nat_lt, refl}
use Rattle.std.proofs.Common.{arith}
use denote.Struct.Props.{props}
use Rattle.std.proofs.lemmas.Bool.{cond_both}
use Rattle.meaning.specs.declared.report.Mode.{Mode}
use Rattle.meaning.specs.declared.report.Mode.TheVariants.{Clear, Loss, Mark, Silence}
use Rattle.meaning.specs.declared.report.Report.{Report}
use Rattle.controllers.specs.declared.aimd.state.AimdState.{AimdState}
use Rattle.controllers.specs.Rule.{Rule, Kept, RuleLaws}
use Rattle.controllers.specs.Aimd.{fresh, sampled, step}
use Rattle.controllers.specs.AimdRange.{InRange, fresh_in_range, step_in_range}

abbrev pub aimd_rule : Rule AimdState
aimd_rule = record {
  InRange = InRange;
  fresh = fresh;
  packet = λ s. s.packet;
  allowance = λ s. s.window;
  path = λ s. s.path;
  level = λ s. s.window;
  least = λ s. s.packet;
  sampled = sampled;
  step = step;
}

range_prop : (s : AimdState) → IsProp (InRange s)
range_prop s = hlevel props

step_keeps : (s : AimdState) (r : Report) (m : Mode) → Kept aimd_rule s (step s r m)
step_keeps s r Clear =
    cond_both (nat_lt s.window s.threshold) _ _ (Kept aimd_rule s) (λ _. (refl, refl))
    (λ _. cond_both (nat_le s.window (s.count + r.received)) _ _ (Kept aimd_rule s) (λ _. (refl, refl)) (λ _. (refl, refl)))
step_keeps s r Loss = (refl, refl)
step_keeps s r Mark = (refl, refl)
step_keeps s r Silence = (refl, refl)

pub aimd_keeps : RuleLaws aimd_rule
aimd_keeps = record {
  range_prop = range_prop;
  packet_range = λ s h. h.0;
  allowance_range = λ s h. h.1;
  fresh_in_range = fresh_in_range;
  sampled_in_range = λ s h r. h;
  step_in_range = step_in_range;
  sampled_path = λ s r. refl;
  sampled_packet = λ s r. refl;
  sampled_level = λ s r. refl;
  sampled_least = λ s r. refl;
  step_keeps = step_keeps;
  loss_level = λ s h r. omega arith;
  mark_level = λ s h r. omega arith;
  silence_level = λ s r. refl;
}
