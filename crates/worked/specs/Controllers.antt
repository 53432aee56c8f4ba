-- Worked values of the controllers, as statements about their rules. Assumes nothing.
--   clear n t              a clear report at the time t with n bytes received
--   loss f t               a loss report at the time t with f bytes in flight before it
--   StartingWindows       4, 3 or 2 packets, at the edges of the ranges
--   ClearLossClear       a window through slow start, a loss and congestion avoidance
--   LargeFlight           a loss with a large flight raises the threshold and leaves the window
--   TwoSamples            the round trip after samples of 100,000 and 180,000
--   RateGrows             the rate controller's first allowance, and the next after one full allowance
use Rattle.std.specs.Prelude.{◌≡◌, ℕ, Some, None, Option}
use Rattle.std.specs.Option.{option_map}
use Rattle.meaning.specs.declared.path.PathEstimate.{PathEstimate}
use Rattle.meaning.specs.declared.report.Report.{Report}
use Rattle.meaning.specs.Paths.{smoothed, variation, path_after}
use Rattle.controllers.specs.declared.aimd.state.AimdState.{AimdState}
use Rattle.controllers.specs.Aimd as aimd
use Rattle.controllers.specs.Rate as rate

abbrev pub clear : ℕ → ℕ → Report
clear n t = record { received = n; lost = 0; mode = 0; sample = None; flight = n; time = t }

abbrev pub loss : ℕ → ℕ → Report
loss f t = record { received = 0; lost = 1; mode = 1; sample = None; flight = f; time = t }

abbrev pub StartingWindows : Type 0
StartingWindows =
    (aimd.starting_window 1095 ≡ 4380) × (aimd.starting_window 1096 ≡ 3288) × (aimd.starting_window 2190 ≡ 6570) × (aimd.starting_window 2191 ≡ 4382)

abbrev grown : AimdState
grown = aimd.told (aimd.fresh 1000) (clear 1500 1000000)

abbrev cut : AimdState
cut = aimd.told grown (loss 4500 2000000)

abbrev counted : AimdState
counted = aimd.told cut (clear 1000 3000000)

abbrev pub ClearLossClear : Type 0
ClearLossClear =
    ((aimd.fresh 1000).window ≡ 4000)
    × (grown.window ≡ 5000)
    × (cut.window ≡ 2250) × (cut.threshold ≡ 2250)
    × (counted.window ≡ 2250)
    × ((aimd.told counted (clear 1250 4000000)).window ≡ 3250)

-- whatever the threshold, the count and the path were
abbrev pub LargeFlight : Type 0
LargeFlight =
    (t a : ℕ) (p : Option PathEstimate) →
    let s : AimdState = record { packet = 1000; window = 2000; threshold = t; count = a; path = p } in
    ((aimd.told s (loss 9000 2000000)).threshold ≡ 4500) × ((aimd.told s (loss 9000 2000000)).window ≡ 2000)

abbrev sampled_twice : Option PathEstimate
sampled_twice = path_after (path_after None (Some 100000)) (Some 180000)

abbrev pub TwoSamples : Type 0
TwoSamples = (option_map variation sampled_twice ≡ Some 57500) × (option_map smoothed sampled_twice ≡ Some 110000)

abbrev sampled_clear : Report
sampled_clear = record { received = 6400; lost = 0; mode = 0; sample = Some 100000; flight = 6400; time = 1000000 }

abbrev pub RateGrows : Type 0
RateGrows =
    let s = rate.told (rate.fresh 1000) sampled_clear in
    (rate.allowance (rate.fresh 1000) ≡ 12800) × (s.rate ≡ 65562) × (rate.allowance s ≡ 6556)
