use Rattle.std.proofs.Common.{refl, ap, ◌∙◌}
use Rattle.meaning.specs.Scheduling.{picks}
use Rattle.schedulers.specs.declared.round_robin.RoundRobin.{RoundRobin}
use Rattle.schedulers.specs.Scheduling.{round_robin}
use Rattle.schedulers.proofs.worked.two_to_one.Goals as goal

pub returns : goal.returns
returns c = record {
  rule = refl;
  bound = λ _. refl;
  carried_out =
      c.next_picks.ensures.answers
      ∙ ap (λ (s : RoundRobin 32). picks (round_robin 32) 6 s)
      (c.raise-2.ensures ∙ ap (λ (s : RoundRobin 32). (round_robin 32).raised s 1 1) (c.raise.ensures ∙ ap (λ (s : RoundRobin 32). (round_robin 32).raised s 0 2) c.new-scheduler.ensures));
}
