use Rattle.std.proofs.Common.{rules, tests, ◌∙◌, arith}
use Rattle.std.proofs.lemmas.Iterator.{YieldsList-from_slice}
use Rattle.std.proofs.lemmas.Iterator.Search.{any_from_yields_List}
use Rattle.tables.specs.Streams.{no_stream, waits_in}
use Rattle.tables.proofs.Slots.{any_by_below}
use Rattle.tables.proofs.core_state.Core.someone_waits.Goals as goal

pub returns : goal.returns
returns c =
    any_from_yields_List (λ s. waits_in s c.args.macroflow) _ _ _ c.any.ensures.ran (YieldsList-from_slice c.args.self.now.streams cc) (λ x b q k. search (rules, tests))
    ∙ any_by_below c.args.self.now.streams no_stream (λ s. waits_in s c.args.macroflow) 32 (omega arith)
