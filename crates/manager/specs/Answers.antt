-- What a call is answered. Assumes nothing.
--   Answer    what a call tells that was accepted, or why it was refused
use Rattle.std.specs.Prelude.{Result}
use Rattle.meaning.specs.declared.refusal.Refusal.{Refusal}
use Rattle.manager.specs.declared.call.Told.{Told}

abbrev pub Answer : Type 0
Answer = Result Told Refusal
