use Rattle.std.proofs.Common.{ℕ, rules, tests, ◌∙◌, arith}
use mathlib.Core.Bool.{beq}
use Rattle.std.proofs.lemmas.Iterator.{YieldsList-from_slice}
use Rattle.std.proofs.lemmas.Iterator.Consumers.{YieldsList-at, YieldsList-from_enumerate}
use Rattle.std.proofs.lemmas.Iterator.Search.{all_from_yields_List}
use Rattle.tables.specs.declared.stream.Stream.{Stream}
use Rattle.tables.specs.Streams.{no_stream, waits_in}
use Rattle.tables.proofs.Slots.{placed_by_below}
use Rattle.grant_calls.proofs.polling.agrees.Goals as goal

pub returns : goal.returns
returns g c =
    let k = g.S.Scheduler.scheduling in
    let agree = λ (p : ℕ × Stream). beq (k.waits c.args.scheduler.now p.0) (waits_in p.1 c.args.macroflow) in
    all_from_yields_List agree _ _ _ c.all.ensures.ran (YieldsList-from_enumerate (YieldsList-at c.enumerate.ensures.source (YieldsList-from_slice c.args.core.now.streams cc)) (search rules)) (λ x b q k. search (rules, tests))
    ∙ placed_by_below c.args.core.now.streams no_stream agree 32 (omega arith)
