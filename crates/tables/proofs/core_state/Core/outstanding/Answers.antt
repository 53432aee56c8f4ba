use Rattle.std.proofs.Common.{rules, tests, ◌∙◌, arith}
use Rattle.std.proofs.lemmas.Iterator.{YieldsList-from_slice, YieldsList-from_map}
use Rattle.std.proofs.lemmas.Iterator.Consumers.{YieldsList-at, sum_by_from_yields_List}
use Rattle.tables.specs.Streams.{no_stream, flight_in}
use Rattle.tables.proofs.Slots.{sum_by_below}
use Rattle.tables.proofs.core_state.Core.outstanding.Goals as goal

pub returns : goal.returns
returns c =
    sum_by_from_yields_List (λ s. flight_in s c.args.macroflow) c.args.self.now.streams c.map.result _ c.sum.ensures.ran (YieldsList-from_map _ (λ s. flight_in s c.args.macroflow) (YieldsList-at c.map.ensures.source (YieldsList-from_slice c.args.self.now.streams cc)) c.map.ensures.closure (λ x r q k. search (rules, tests)))
    ∙ sum_by_below c.args.self.now.streams no_stream (λ s. flight_in s c.args.macroflow) 32 (omega arith)
