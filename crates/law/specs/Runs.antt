-- The run that a list of calls makes with the plain manager. Assumes nothing.
--   Lent            the tables that the host lends
--   start           a fresh manager of f macroflows with these tables
--   run_of          the run of the calls from there, with the answers that were given
use Rattle.std.specs.Prelude.{ℕ, List, length, take}
use Rattle.meaning.specs.Control.{Control}
use Rattle.meaning.specs.Scheduling.{Scheduling}
use Rattle.tables.specs.declared.core_state.Core.{Core}
use Rattle.tables.specs.declared.row.Row.{Row}
use Rattle.tables.specs.Core.{fresh}
use Rattle.manager.specs.declared.call.Call.{Call}
use Rattle.manager.specs.Answers.{Answer}
use Rattle.manager.specs.State.{State, state}
use Rattle.manager.specs.Steps.{after}
use Rattle.law.specs.Law.{Run}

pub record Lent (C S : Type 0) : Type 0 where
  pub controllers : List C
  pub schedulers : List S
  pub rows : List Row

abbrev pub lent : {C S : Type 0} → List C → List S → List Row → Lent C S
lent cs ss rs = record { controllers = cs; schedulers = ss; rows = rs }

-- a manager's core with the tables that it is lent
abbrev pub held_with : {C S : Type 0} → Core → Lent C S → State C S
held_with m l = state m l.controllers l.schedulers l.rows

abbrev pub start : {C S : Type 0} → ℕ → Lent C S → State C S
start f l = held_with (fresh f (length l.rows)) l

abbrev pub run_of : {C S : Type 0} → Control C → Scheduling S → ℕ → Lent C S → List Call → List Answer → Run C S
run_of k d f l calls answers = record {
  macroflows = f;
  controllers = l.controllers;
  schedulers = l.schedulers;
  rows = length l.rows;
  calls = calls;
  answers = answers;
  held = λ n. after k d (start f l) (take n calls);
}
