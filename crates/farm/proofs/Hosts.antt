-- Making a manager of one path, whose round robin is fresh.
--   made_by_rows  only the number of rows decides
--   refused_host  where the packet is in range and the manager is refused, the host is refused
use Rattle.std.proofs.Common.{ℕ, ◌≡◌, rules}
use Rattle.std.specs.Prelude.{cond, [], ◌∷◌, Ok, Err, nat_le}
use Rattle.meaning.specs.declared.refusal.Reason.TheVariants.{CannotBeMade}
use Rattle.meaning.specs.Below as below
use Rattle.meaning.specs.declared.refusal.Refusal.{Refusal}
use Rattle.meaning.specs.Refusals.{about_nothing}
use Rattle.controllers.specs.declared.aimd.state.AimdState.{AimdState}
use Rattle.controllers.specs.Aimd as aimd
use Rattle.controllers.specs.Packets as packets
use Rattle.farm.specs.Hosts.{hosted, made_host}
use Rattle.schedulers.specs.Scheduling as round_robins
use Rattle.schedulers.specs.Scheduling.{round_robin}
use Rattle.tables.specs.Core.{fresh}
use Rattle.manager.specs.Making.{made}

pub made_by_rows : (n : ℕ) → made (round_robin 32) 1 1 (round_robins.fresh 32 ∷ []) n ≡ cond (nat_le n 65536) (Ok (fresh 1 n)) (Err (about_nothing CannotBeMade))
unfolding below.all_below
made_by_rows n = search rules

-- a host whose manager is refused
pub refused_host : (n p : ℕ) (s : AimdState) (e : Refusal) → Ok s ≡ packets.made aimd.fresh p → Err e ≡ made (round_robin 32) 1 1 (round_robins.fresh 32 ∷ []) n → hosted {n = n} (Err e) ≡ made_host n p
refused_host n p s e h r = search (rules, made_by_rows, h, r)
