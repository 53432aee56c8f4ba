use Rattle.std.proofs.Common.{rules, tests, ◌∙◌, ◌+◌, ◌*◌, ◌^◌, arith}
use Rattle.std.proofs.lemmas.Iterator.{YieldsList-from_slice, YieldsList-from_map}
use Rattle.std.proofs.lemmas.Iterator.Consumers.{YieldsList-at, sum_by_from_yields_List}
use Rattle.std.proofs.lemmas.Iterator.Adapters.{fits_from_length, at_most_from_yields_List}
use Rattle.tables.specs.Streams.{no_stream, load_in}
use Rattle.tables.proofs.Slots.{sum_by_below}
use Rattle.tables.proofs.core_state.Core.load.Goals as goal

pub sum-requires-clause-fits : goal.sum-requires-clause-fits
sum-requires-clause-fits c = fits_from_length _ _ 32 _ (at_most_from_yields_List (YieldsList-at c.map.ensures.source (YieldsList-from_slice c.args.self.now.streams cc)) (omega arith)) c.map.ensures.closure (omega arith) (λ x r q k. search (rules, tests))

pub returns-clause-value : goal.returns-clause-value
returns-clause-value c =
    sum_by_from_yields_List (λ s. load_in s c.args.macroflow) c.args.self.now.streams c.map.result _ c.sum.ensures.ran (YieldsList-from_map _ (λ s. load_in s c.args.macroflow) (YieldsList-at c.map.ensures.source (YieldsList-from_slice c.args.self.now.streams cc)) c.map.ensures.closure (λ x r q k. search (rules, tests)))
    ∙ sum_by_below c.args.self.now.streams no_stream (λ s. load_in s c.args.macroflow) 32 (omega arith)

pub returns-clause-most : goal.returns-clause-most
returns-clause-most c =
    let run = c.sum.ensures.runs tt in
    let few = fits_from_length _ _ 32 (32 * 2 ^ 65 + 1) (at_most_from_yields_List (YieldsList-at c.map.ensures.source (YieldsList-from_slice c.args.self.now.streams cc)) (omega arith)) c.map.ensures.closure (omega arith) (λ x r q k. search (rules, tests)) run.0 run.0.seen run.1 in
    omega (arith, few, run.3)
