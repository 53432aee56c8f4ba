use Rattle.std.proofs.Common.{◌≡◌, rules}
use Rattle.farm.specs.Words.{stream_text}
use Rattle.farm.proofs.words.StreamNameDisplay.fmt.Goals as goal

pub returns-clause-styled : goal.returns-clause-styled
returns-clause-styled g c = λ flush ok.
    let name : c.unwrap_or.result.now ≡ stream_text c.args.self.now.0 = search rules in
    rw name at (c.pad.ensures.styled flush ok)
