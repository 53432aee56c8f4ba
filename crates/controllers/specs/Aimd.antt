-- Byte AIMD, on its plain numbers. Assumes nothing.
--   capped n                  nothing passes 1,048,576
--   starting_window p         4 packets up to 1,095 bytes, 3 up to 2,190, 2 above
--   fresh p                   the numbers of a new controller with packets of p bytes
--   sampled s r               the numbers with the report's sample taken
--   slow_start s n            clear below the threshold: the window grows by n received, at most a packet
--   avoidance s n             clear otherwise: n received are counted; a window of them is worth a packet more
--   threshold_after s f       half of the flight f, at least two packets
--   cut s f                   loss or mark: the window falls to the new threshold, if it is above it
--   silenced s f              silence: the window falls to a packet
--   step s r m                a report r in range with the mode m, its sample taken already
--   told s r                  any report: ignored where a number is out of range
use Rattle.std.specs.Prelude.{ℕ, ◌+◌, ◌*◌, ◌/◌, min, max, cond, None, nat_le, nat_lt}
use Rattle.meaning.specs.declared.report.Mode.{Mode}
use Rattle.meaning.specs.declared.report.Mode.TheVariants.{Clear, Loss, Mark, Silence}
use Rattle.meaning.specs.declared.report.Report.{Report}
use Rattle.meaning.specs.Paths.{path_after}
use Rattle.meaning.specs.Reports.{told_by}
use Rattle.controllers.specs.declared.aimd.state.AimdState.{AimdState}

abbrev pub capped : ℕ → ℕ
capped n = min n 1048576

abbrev pub starting_window : ℕ → ℕ
starting_window p = cond (nat_le p 1095) (4 * p) (cond (nat_le p 2190) (3 * p) (2 * p))

abbrev pub fresh : ℕ → AimdState
fresh p = record { packet = p; window = starting_window p; threshold = 1048576; count = 0; path = None }

abbrev pub sampled : AimdState → Report → AimdState
sampled s r = record { packet = s.packet; window = s.window; threshold = s.threshold; count = s.count; path = path_after s.path r.sample }

-- a state with another window, threshold and count
abbrev pub moved : AimdState → ℕ → ℕ → ℕ → AimdState
moved s w t a = record { packet = s.packet; window = w; threshold = t; count = a; path = s.path }

abbrev pub slow_start : AimdState → ℕ → AimdState
slow_start s n = moved s (capped (s.window + min n s.packet)) s.threshold s.count

abbrev pub avoidance : AimdState → ℕ → AimdState
avoidance s n =
    cond (nat_le s.window (s.count + n))
    (moved s (capped (s.window + s.packet)) s.threshold 0)
    (moved s s.window s.threshold (s.count + n))

abbrev pub threshold_after : AimdState → ℕ → ℕ
threshold_after s f = capped (max (f / 2) (2 * s.packet))

abbrev pub cut : AimdState → ℕ → AimdState
cut s f = moved s (min s.window (threshold_after s f)) (threshold_after s f) 0

abbrev pub silenced : AimdState → ℕ → AimdState
silenced s f = moved s s.packet (threshold_after s f) 0

abbrev pub step : AimdState → Report → Mode → AimdState
step s r Clear = cond (nat_lt s.window s.threshold) (slow_start s r.received) (avoidance s r.received)
step s r Loss = cut s r.flight
step s r Mark = cut s r.flight
step s r Silence = silenced s r.flight

abbrev pub told : AimdState → Report → AimdState
told = told_by sampled step
