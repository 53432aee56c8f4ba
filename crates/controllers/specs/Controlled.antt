-- A controller by its numbers. Assumes nothing.
--   told_in_range  a report leads from numbers in range to numbers in range
--   told g c r     the controller c after the report r, by the rule of its numbers
--   control_of g   what it tells: its packet, its allowance, its path estimate
--   same           controllers with the same numbers are the same
--   control_laws   it keeps the laws of a controller
use Rattle.std.specs.Prelude.{◌≡◌, refl}
use Rattle.std.proofs.Common.{◌∙◌, arith}
use mathlib.Core.HLevel.{is_prop→PathP}
use Rattle.meaning.specs.declared.report.Report.{Report}
use Rattle.meaning.specs.Paths.{path_after}
use Rattle.meaning.specs.Control.{Control, ControlLaws}
use Rattle.meaning.proofs.Hearing.{told_both, told_acts, told_nothing}
use Rattle.controllers.specs.Rule as rule
use Rattle.controllers.specs.Rule.{Rule, RuleLaws}
use Rattle.controllers.specs.declared.numbers.Numbers.{Ghosts}
use Rattle.controllers.specs.declared.controller_of.ControllerOf.{ControllerOf}

pub told_in_range : {S : Type 0} (k : Rule S) → RuleLaws k → (s : S) → k.InRange s → (r : Report) → k.InRange (rule.told k s r)
told_in_range k laws s h r = told_both k.sampled k.step s r k.InRange (laws.step_in_range (k.sampled s r) (laws.sampled_in_range s h r) r) h

module _ {S : Type 0} (g : Ghosts S) where
  abbrev pub told : ControllerOf S g → Report → ControllerOf S g
  told c r = record { state = rule.told g.rule c.state r; ranged = told_in_range g.rule g.lawful c.state c.ranged r }

  abbrev pub control_of : Control (ControllerOf S g)
  control_of = record {
    packet = λ c. g.rule.packet c.state;
    allowance = λ c. g.rule.allowance c.state;
    path = λ c. g.rule.path c.state;
    told = told;
    spare = record { state = g.rule.fresh 64; ranged = g.lawful.fresh_in_range 64 (omega arith, omega arith) };
  }

  pub same : (a b : ControllerOf S g) → a.state ≡ b.state → a ≡ b
  same a b e = λ i. record { state = e i; ranged = is_prop→PathP (λ j. g.rule.InRange (e j)) (λ j. g.lawful.range_prop (e j)) a.ranged b.ranged i }

  pub control_laws : ControlLaws control_of
  control_laws =
      let k = g.rule in
      let laws = g.lawful in
      record {
        packet_least = λ c. (laws.packet_range c.state c.ranged).0;
        packet_most = λ c. (laws.packet_range c.state c.ranged).1;
        packet_stays = λ c r.
            told_both k.sampled k.step c.state r (λ t. k.packet t ≡ k.packet c.state)
            (λ m. (laws.step_keeps (k.sampled c.state r) r m).0 ∙ laws.sampled_packet c.state r) refl;
        allowance_least = λ c. (laws.allowance_range c.state c.ranged).0;
        allowance_most = λ c. (laws.allowance_range c.state c.ranged).1;
        path_steps = λ c r e.
            told_acts k.sampled k.step c.state r e (λ t. k.path t ≡ path_after (k.path c.state) r.sample)
            (λ m. (laws.step_keeps (k.sampled c.state r) r m).1 ∙ laws.sampled_path c.state r);
        ignores = λ c r e. same _ _ (told_nothing k.sampled k.step c.state r e);
      }
