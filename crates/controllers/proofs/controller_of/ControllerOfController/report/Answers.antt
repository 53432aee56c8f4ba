use Rattle.std.proofs.Common.{sym, ◌∙◌, subst}
use Rattle.controllers.specs.Controlled.{told_in_range}
use Rattle.controllers.proofs.Reporting.{after_heard, after_ignored, promised}
use Rattle.controllers.proofs.controller_of.ControllerOfController.report.Goals as goal

pub invariant_of-self : goal.invariant_of-self
invariant_of-self g c =
    let k = g.N.Numbers in
    let s = c.args.self.now in
    let r = c.args.report in
    let after = after_heard k.rule s.state r _ _ (sym c.heard.ensures ∙ c.in-Some.is) c.numbers_after-self.ensures in
    record { ranged = subst k.rule.InRange (sym after) (told_in_range k.rule k.lawful s.state s.ranged r) }

pub returns-in-Some : goal.returns-in-Some
returns-in-Some g c =
    let k = g.N.Numbers in
    let s = c.args.self.now in
    let r = c.args.report in
    let after = after_heard k.rule s.state r _ _ (sym c.heard.ensures ∙ c.in-Some.is) c.numbers_after-self.ensures in
    let p = promised k s _ r after in
    record { after = p.0; loss = p.1; silence = p.2 }

pub returns-in_default : goal.returns-in_default
returns-in_default g c =
    let k = g.N.Numbers in
    let s = c.args.self.now in
    let r = c.args.report in
    let p = promised k s s r (after_ignored k.rule s.state r (sym c.heard.ensures ∙ c.in_default.is)) in
    record { after = p.0; loss = p.1; silence = p.2 }
