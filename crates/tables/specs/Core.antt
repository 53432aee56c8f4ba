-- The plain core of a manager, and what a refusal names. Assumes nothing.
--   fresh f n                    f macroflows and n rows: all slots closed, all numbers 0
--   stream m i                   the record of the slot i
--   timely m t                   question 2: not before the last time, and at most 10^15
--   named_slot i                 a slot as a refusal names it
--   named_macroflow m f          a macroflow as a refusal names it
--   macroflow_of m i             the macroflow of the stream that is open in the slot i, as a refusal names it
--   about_slot m i r             a refusal for the reason r, about the slot i and its stream's macroflow
--   about_macroflow m o f r      a refusal for the reason r, about the macroflow f and the slot o if there is one
--   at_time m t                  only the last time changes
--   put m t i s                  the record of the slot i becomes s, at the time t
use Rattle.std.specs.Prelude.{ℕ, Bool, cond, ◌&&◌, replicate, Some, None, Option, nat_le, nat_lt, slice_index_or, slice_set}
use Rattle.meaning.specs.declared.refusal.Reason.{Reason}
use Rattle.meaning.specs.declared.refusal.Refusal.{Refusal}
use Rattle.tables.specs.declared.core_state.Core.{Core}
use Rattle.tables.specs.declared.stream.Stream.{Stream}
use Rattle.tables.specs.Streams.{no_stream}

abbrev pub fresh : ℕ → ℕ → Core
fresh f n = record { streams = replicate 32 no_stream; macroflows = f; capacity = n; issued = 0; last = 0 }

abbrev pub stream : Core → ℕ → Stream
stream m i = slice_index_or m.streams i no_stream

abbrev pub timely : Core → ℕ → Bool
timely m t = nat_le m.last t && nat_le t 1000000000000000

abbrev pub named_slot : ℕ → Option ℕ
named_slot i = cond (nat_lt i 32) (Some i) None

abbrev pub named_macroflow : Core → ℕ → Option ℕ
named_macroflow m f = cond (nat_lt f m.macroflows) (Some f) None

abbrev pub macroflow_of : Core → ℕ → Option ℕ
macroflow_of m i = cond (nat_lt i 32 && (stream m i).opened) (named_macroflow m (stream m i).macroflow) None

abbrev pub about_slot : Core → ℕ → Reason → Refusal
about_slot m i r = record { reason = r; slot = named_slot i; macroflow = macroflow_of m i }

abbrev pub named_some : Option ℕ → Option ℕ
named_some None = None
named_some (Some i) = named_slot i

abbrev pub about_macroflow : Core → Option ℕ → ℕ → Reason → Refusal
about_macroflow m o f r = record { reason = r; slot = named_some o; macroflow = named_macroflow m f }

abbrev pub at_time : Core → ℕ → Core
at_time m t = record { streams = m.streams; macroflows = m.macroflows; capacity = m.capacity; issued = m.issued; last = t }

abbrev pub put : Core → ℕ → ℕ → Stream → Core
put m t i s = record { streams = slice_set m.streams i s; macroflows = m.macroflows; capacity = m.capacity; issued = m.issued; last = t }
