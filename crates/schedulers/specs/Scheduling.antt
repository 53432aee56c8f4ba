-- The round robin as a scheduler: the rule, on states that are sound.
--   fresh        a fresh round robin over N places
--   round_robin  its functions, by the rule
use Rattle.std.specs.Prelude.{ℕ, ◌-◌, ◌*◌}
use Rattle.meaning.specs.Scheduling.{Scheduling}
use Rattle.schedulers.specs.declared.round_robin.RoundRobin.{RoundRobin}
use Rattle.schedulers.specs.Rule as rule
use Rattle.schedulers.specs.Kept.{fresh_sound, raised_sound, lowered_sound, turned_sound}

abbrev pub fresh : (N : ℕ) → RoundRobin N
fresh N = record { state = rule.fresh N; sound = fresh_sound N }

abbrev pub round_robin : (N : ℕ) → Scheduling (RoundRobin N)
round_robin N = record {
  waits = λ r i. rule.waits r.state i;
  weight = λ r i. rule.weight_of r.state i;
  raised = λ r i w. record { state = rule.raised r.state i w; sound = raised_sound r.state r.sound i w };
  lowered = λ r i. record { state = rule.lowered r.state i; sound = lowered_sound r.state r.sound i };
  chosen = λ r. rule.chosen r.state;
  turned = λ r. record { state = rule.turned r.state; sound = turned_sound r.state r.sound };
  patience = λ r i. rule.patience r.state i;
  bound = λ r. (N - 1) * 8;
  spare = fresh N;
}
