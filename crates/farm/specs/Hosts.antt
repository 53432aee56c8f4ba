-- A host with the tables of one radio path. Assumes nothing.
--   Hosted         the core of its manager, the numbers of its controllers, its schedulers and its rows
--   hosted r       those of the host that was made
--   made_host n p  what making a host of n rows with packets of p bytes answers
use Rattle.std.specs.Prelude.{ℕ, cond, ◌&&◌, List, [], ◌∷◌, replicate, map, Ok, Err, Result, nat_le}
use Rattle.meaning.specs.declared.refusal.Reason.TheVariants.{CannotBeMade}
use Rattle.meaning.specs.declared.refusal.Refusal.{Refusal}
use Rattle.meaning.specs.Refusals.{about_nothing}
use Rattle.controllers.specs.declared.aimd.state.AimdState.{AimdState}
use Rattle.controllers.specs.Aimd as aimd
use Rattle.controllers.specs.Packets.{is_packet}
use Rattle.schedulers.specs.declared.round_robin.RoundRobin.{RoundRobin}
use Rattle.schedulers.specs.Scheduling as round_robins
use Rattle.tables.specs.declared.core_state.Core.{Core}
use Rattle.tables.specs.declared.row.Row.{Row}
use Rattle.tables.specs.Core.{fresh}
use Rattle.tables.specs.Rows.{blank_row}
use Rattle.farm.specs.declared.host.Host.{Host}

pub record Hosted : Type 0 where
  pub core : Core
  pub numbers : List AimdState
  pub schedulers : List (RoundRobin 32)
  pub rows : List Row

abbrev pub hosted : {n : ℕ} → Result (Host n) Refusal → Result Hosted Refusal
hosted (Ok h) = Ok (record { core = h.manager.core; numbers = map (λ c. c.state) h.controllers; schedulers = h.schedulers; rows = h.rows })
hosted (Err e) = Err e

abbrev pub made_host : ℕ → ℕ → Result Hosted Refusal
made_host n p =
    cond (is_packet p && nat_le n 65536)
    (Ok (record { core = fresh 1 n; numbers = aimd.fresh p ∷ []; schedulers = round_robins.fresh 32 ∷ []; rows = replicate n blank_row }))
    (Err (about_nothing CannotBeMade))
