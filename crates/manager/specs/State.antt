-- A manager with the tables that its host lends it. Assumes nothing.
--   State C S         the manager's core, the controllers, the schedulers and the ledger's rows
--   state m cs ss rs  these, put together
use Rattle.std.specs.Prelude.{List}
use Rattle.tables.specs.declared.core_state.Core.{Core}
use Rattle.tables.specs.declared.row.Row.{Row}

pub record State (C S : Type 0) : Type 0 where
  pub core : Core
  pub controllers : List C
  pub schedulers : List S
  pub rows : List Row

abbrev pub state : {C S : Type 0} → Core → List C → List S → List Row → State C S
state m cs ss rs = record { core = m; controllers = cs; schedulers = ss; rows = rs }
