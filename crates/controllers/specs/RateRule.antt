-- The rate controller as a rule, and that it keeps the laws of one. Assumes nothing.
--   rate_rule   its functions; the level is the rate, and silence leaves 8,000 of it
--   rate_keeps  the laws
use Rattle.std.specs.Prelude.{◌+◌, nat_le, refl}
use Rattle.std.proofs.Common.{arith}
use denote.Struct.Props.{props}
use Rattle.std.proofs.lemmas.Bool.{cond_both}
use Rattle.meaning.specs.declared.report.Mode.{Mode}
use Rattle.meaning.specs.declared.report.Mode.TheVariants.{Clear, Loss, Mark, Silence}
use Rattle.meaning.specs.declared.report.Report.{Report}
use Rattle.controllers.specs.declared.rate.state.RateState.{RateState}
use Rattle.controllers.specs.Rule.{Rule, Kept, RuleLaws}
use Rattle.controllers.specs.Rate.{allowance, fresh, sampled, step}
use Rattle.controllers.specs.RateRange.{InRange, fresh_in_range, step_in_range}

abbrev pub rate_rule : Rule RateState
rate_rule = record {
  InRange = InRange;
  fresh = fresh;
  packet = λ s. s.packet;
  allowance = allowance;
  path = λ s. s.path;
  level = λ s. s.rate;
  least = λ s. 8000;
  sampled = sampled;
  step = step;
}

range_prop : (s : RateState) → IsProp (InRange s)
range_prop s = hlevel props

step_keeps : (s : RateState) (r : Report) (m : Mode) → Kept rate_rule s (step s r m)
step_keeps s r Clear =
    cond_both (nat_le (allowance s) (s.count + r.received)) _ _ (Kept rate_rule s) (λ _. (refl, refl)) (λ _. (refl, refl))
step_keeps s r Loss = (refl, refl)
step_keeps s r Mark = (refl, refl)
step_keeps s r Silence = (refl, refl)

pub rate_keeps : RuleLaws rate_rule
rate_keeps = record {
  range_prop = range_prop;
  packet_range = λ s h. h.0;
  allowance_range = λ s h. (omega (arith, h), omega arith);
  fresh_in_range = fresh_in_range;
  sampled_in_range = λ s h r. h;
  step_in_range = step_in_range;
  sampled_path = λ s r. refl;
  sampled_packet = λ s r. refl;
  sampled_level = λ s r. refl;
  sampled_least = λ s r. refl;
  step_keeps = step_keeps;
  loss_level = λ s h r. omega (arith, h);
  mark_level = λ s h r. omega (arith, h);
  silence_level = λ s r. refl;
}
