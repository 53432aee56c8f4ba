-- The rate controller, on its plain numbers. Assumes nothing.
--   round_trip path       the smoothed round trip, 200,000 until a sample has come
--   allowance s           what the rate carries in one round trip, from one packet to 1,048,576
--   fresh p               the numbers of a new controller with packets of p bytes
--   sampled s r           the numbers with the report's sample taken
--   counted s n           clear: n received are counted; an allowance of them raises the rate
--   lowered s             loss or mark: the rate falls by 8,000, not below 8,000
--   silenced s            silence: the rate falls to 8,000
--   step s r m            a report r in range with the mode m, its sample taken already
--   told s r              any report: ignored where a number is out of range
use Rattle.std.specs.Prelude.{ℕ, ◌+◌, ◌-◌, ◌*◌, ◌/◌, min, max, cond, Some, None, Option, nat_le}
use Rattle.meaning.specs.declared.path.PathEstimate.{PathEstimate}
use Rattle.meaning.specs.declared.report.Mode.{Mode}
use Rattle.meaning.specs.declared.report.Mode.TheVariants.{Clear, Loss, Mark, Silence}
use Rattle.meaning.specs.declared.report.Report.{Report}
use Rattle.meaning.specs.Paths.{smoothed, path_after}
use Rattle.meaning.specs.Reports.{told_by}
use Rattle.controllers.specs.declared.rate.state.RateState.{RateState}

abbrev pub round_trip : Option PathEstimate → ℕ
round_trip None = 200000
round_trip (Some p) = smoothed p

abbrev pub allowance : RateState → ℕ
allowance s = min (max (s.rate * round_trip s.path / 1000000) s.packet) 1048576

abbrev pub fresh : ℕ → RateState
fresh p = record { packet = p; rate = 64000; count = 0; path = None }

abbrev pub sampled : RateState → Report → RateState
sampled s r = record { packet = s.packet; rate = s.rate; count = s.count; path = path_after s.path r.sample }

-- a state with another rate and count
abbrev pub moved : RateState → ℕ → ℕ → RateState
moved s v a = record { packet = s.packet; rate = v; count = a; path = s.path }

abbrev pub counted : RateState → ℕ → RateState
counted s n =
    cond (nat_le (allowance s) (s.count + n))
    (moved s (min (s.rate + 100000000 / s.rate) 10000000) 0)
    (moved s s.rate (s.count + n))

abbrev pub lowered : RateState → RateState
lowered s = moved s (max (s.rate - 8000) 8000) 0

abbrev pub silenced : RateState → RateState
silenced s = moved s 8000 0

abbrev pub step : RateState → Report → Mode → RateState
step s r Clear = counted s r.received
step s r Loss = lowered s
step s r Mark = lowered s
step s r Silence = silenced s

abbrev pub told : RateState → Report → RateState
told = told_by sampled step
