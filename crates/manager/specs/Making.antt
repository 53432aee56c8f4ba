-- Making a manager. Assumes nothing.
--   is_idle k x         no slot waits in the scheduler x
--   all_idle k ss       in none of the schedulers
--   is_ready …          1 to 8 macroflows, at most 65,536 rows, as many controllers and schedulers as macroflows, no slot waiting
--   made …              the core of a new manager, or refusal 19
--   core_of r           the core of what was made
use Rattle.std.specs.Prelude.{ℕ, Bool, cond, not, ◌&&◌, List, length, Ok, Err, Result, ◌==◌, nat_le}
use Rattle.std.specs.List.{list_all}
use Rattle.meaning.specs.declared.refusal.Reason.TheVariants as reason
use Rattle.meaning.specs.declared.refusal.Refusal.{Refusal}
use Rattle.meaning.specs.Scheduling.{Scheduling}
use Rattle.tables.specs.declared.core_state.Core.{Core}
use Rattle.meaning.specs.Below.{all_below}
use Rattle.meaning.specs.Refusals.{about_nothing}
use Rattle.tables.specs.Core.{fresh}
use Rattle.manager.specs.declared.manager_state.Manager.{Manager}

module _ {S : Type 0} (k : Scheduling S) where
  abbrev pub is_idle : S → Bool
  is_idle x = all_below 32 (λ i. not (k.waits x i))

  abbrev pub all_idle : List S → Bool
  all_idle ss = list_all is_idle ss

  abbrev pub is_ready : ℕ → ℕ → List S → ℕ → Bool
  is_ready f controllers ss rows =
      (nat_le 1 f && nat_le f 8) && (nat_le rows 65536 && (controllers == f && (length ss == f && all_idle ss)))

  abbrev pub made : ℕ → ℕ → List S → ℕ → Result Core Refusal
  made f controllers ss rows = cond (is_ready f controllers ss rows) (Ok (fresh f rows)) (Err (about_nothing reason.CannotBeMade))

abbrev pub core_of : Result Manager Refusal → Result Core Refusal
core_of (Ok m) = Ok m.core
core_of (Err e) = Err e
