use Rattle.std.proofs.Common.{rules}
use Rattle.farm.proofs.Hosts.{refused_host}
use Rattle.farm.proofs.host.Host.new.Goals as goal

-- the packet is in range, so it is the number of rows that is refused
pub returns-in_err-manager : goal.returns-in_err-manager
returns-in_err-manager g c = search (rules, refused_host g.row.ROWS c.args.packet c.in_ok-new.field-0.state c.in_err-manager.field-0.0 (search rules) (search rules))
