use Rattle.std.proofs.Common.{length, rules}
use Rattle.least.specs.Order.{Least}
use Rattle.least.proofs.Places.{place_from_least}
use Rattle.least.proofs.least.Goals as goal

pub returns : goal.returns
returns g c =
    let takes = g.R.Ranking.takes c.args.by.now in
    let upto = g.R.Ranking.upto c.args.by.now in
    let xs = c.args.records.now in
    let whole : Least takes upto xs (length xs) c.loop-i.best = search rules in
    record {
      least = whole;
      place = place_from_least takes upto (g.met.R.Ranking.order c.args.by.now) xs c.loop-i.best whole;
    }
