-- The parts of a moment, as they are read.
use Rattle.std.specs.Prelude.{◌≡◌, ℕ, pos, ◌≤ℤ◌, Option, Some, None}
use Rattle.jiff_core.specs.declared.civil.date.Date.{Date as Day}
use Rattle.jiff_core.specs.declared.civil.time.Time.{Time as Clock}
use Rattle.toml_datetime.specs.declared.datetime.Date.{Date}
use Rattle.toml_datetime.specs.declared.datetime.Time.{Time}
use Rattle.gw_log_words.specs.Moment.{day_of, nanosecond_of, time_with}

-- the day that a date writes, and none where the calendar lacks it
abbrev pub IsDay : Date → Option Day → Type 0
IsDay date (Some d) = (date ≡ day_of d) × (pos 0 ≤ℤ d.year)
IsDay date None = (d : Day) → pos 0 ≤ℤ d.year → ¬ (date ≡ day_of d)

-- the time of day that is written, and none without a second, or where no clock shows it
abbrev pub IsClock : Time → Option Clock → Type 0
IsClock time (Some t) =
    (time ≡ time_with t time.nanosecond) × (nanosecond_of time.nanosecond ≡ t.subsec_nanosecond)
IsClock time None =
    (t : Clock) (fraction : Option ℕ) → nanosecond_of fraction ≡ t.subsec_nanosecond
    → ¬ (time ≡ time_with t fraction)
