use Rattle.std.proofs.Common.{◌∙◌}
use Rattle.schedulers.specs.Lawful.{search_any}
use Rattle.schedulers.proofs.round_robin.RoundRobin.is_any_waiting.Goals as goal

pub returns : goal.returns
returns g c = let r = c.args.self.now in c.is_some.ensures ∙ search_any r.state r.sound _ c.next_waiting.ensures
