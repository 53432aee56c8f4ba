-- What a report promises of a controller by its numbers. Assumes nothing.
use Rattle.std.proofs.Common.{◌≡◌, Some, None, sym, ap, ◌∙◌, arith}
use Rattle.meaning.specs.declared.report.Mode.{Mode}
use Rattle.meaning.specs.declared.report.Mode.TheVariants.{Loss, Mark, Silence}
use Rattle.meaning.specs.declared.report.Report.{Report}
use Rattle.meaning.specs.Reports.{heard, when_heard}
use Rattle.meaning.proofs.Hearing.{told_as}
use Rattle.controllers.specs.Rule as rule
use Rattle.controllers.specs.Rule.{Rule, LossNeverGrows, SilenceLeavesLeast}
use Rattle.controllers.specs.Controlled.{told, same}
use Rattle.controllers.specs.declared.numbers.Numbers.{Ghosts}
use Rattle.controllers.specs.declared.controller_of.ControllerOf.{ControllerOf}

-- the numbers after a report that is heard, and after one that is not
module _ {S : Type 0} (k : Rule S) (s : S) (r : Report) where
  pub after_heard : (m : Mode) (t : S) → heard r ≡ Some m → t ≡ k.step (k.sampled s r) r m → t ≡ rule.told k s r
  after_heard m t h f = f ∙ sym (told_as k.sampled k.step s r m h)

  pub after_ignored : heard r ≡ None → s ≡ rule.told k s r
  after_ignored h = sym (ap (λ o. when_heard o (k.step (k.sampled s r) r) s) h)

-- a controller with these numbers is the one that was told, and its level is as promised
module _ {S : Type 0} (g : Ghosts S) (c d : ControllerOf S g) (r : Report) (after : d.state ≡ rule.told g.rule c.state r) where
  abbrev sampled : S
  sampled = g.rule.sampled c.state r

  level_as : (m : Mode) → heard r ≡ Some m → g.rule.level d.state ≡ g.rule.level (g.rule.step sampled r m)
  level_as m e = ap g.rule.level (after ∙ told_as g.rule.sampled g.rule.step c.state r m e)

  pub promised : (d ≡ told g c r) × LossNeverGrows g.rule c.state d.state r × SilenceLeavesLeast g.rule c.state d.state r
  promised =
      let laws = g.lawful in
      let ranged = laws.sampled_in_range c.state c.ranged r in
      let same_level = laws.sampled_level c.state r in (
        same g d (told g c r) after,
        (
          (λ e. omega (arith, level_as Loss e, laws.loss_level sampled ranged r, same_level)),
          (λ e. omega (arith, level_as Mark e, laws.mark_level sampled ranged r, same_level)),
        ),
        (λ e. level_as Silence e ∙ laws.silence_level sampled r ∙ laws.sampled_least c.state r),
      )
