use Rattle.std.proofs.Common.{arith, length-take}
use Rattle.grant_calls.proofs.expiring.expire.Goals as goal

pub end-requires : goal.end-requires
end-requires c = omega (arith, length-take c.args.core.now.issued c.args.rows.now, c.in-Some.ensures.least.within)
