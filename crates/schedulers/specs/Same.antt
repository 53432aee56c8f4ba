-- Two round robins with one state are one, since a state is sound in one way at most.
use Rattle.std.specs.Prelude.{◌≡◌, ℕ}
use mathlib.Core.HLevel.{is_prop→PathP}
use Rattle.schedulers.specs.declared.round_robin.RoundRobin.{RoundRobin}
use Rattle.schedulers.specs.Sound.{Sound, sound_prop}

pub same : {N : ℕ} (r t : RoundRobin N) → r.state ≡ t.state → r ≡ t
same {N} r t e = λ i. record {
  state = e i;
  sound = is_prop→PathP (λ j. Sound N (e j)) (λ j. sound_prop N (e j)) r.sound t.sound i;
}
