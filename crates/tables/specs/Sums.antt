-- What the records of a macroflow come to. Assumes nothing.
--   load m f           outstanding and open bytes over the open slots of the macroflow f
--   flight m f         outstanding bytes there; 2^64 - 1 where it would be more, which is out of range for a report
--   someone_waits m f  whether by the records a slot waits there
use Rattle.std.specs.Prelude.{ℕ, ◌-◌, ◌^◌, min, Bool}
use Rattle.tables.specs.declared.core_state.Core.{Core}
use Rattle.meaning.specs.Below.{sum_below, any_below}
use Rattle.tables.specs.Core.{stream}
use Rattle.tables.specs.Streams.{waits_in, load_in, flight_in}

abbrev pub load : Core → ℕ → ℕ
load m f = sum_below 32 (λ i. load_in (stream m i) f)

abbrev pub outstanding : Core → ℕ → ℕ
outstanding m f = sum_below 32 (λ i. flight_in (stream m i) f)

abbrev pub flight : Core → ℕ → ℕ
flight m f = min (outstanding m f) (2 ^ 64 - 1)

abbrev pub someone_waits : Core → ℕ → Bool
someone_waits m f = any_below 32 (λ i. waits_in (stream m i) f)
