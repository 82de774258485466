-- Moments by a clock: what a text gives, what comes so many ticks later, and the text of it.
use Rattle.std.specs.Prelude.{◌≡◌, ℕ, ◌*◌, ◌==◌, if◌then◌else◌, pos, ◌+ℤ◌, unsigned_abs, List, [], ◌++◌, codes}
use Rattle.std.specs.Prelude.{Option, Some, None}
use Rattle.std.specs.Option.{option_map_or}
use Rattle.jiff_core.specs.DateTime.{civil_nanos}
use Rattle.jiff_core.specs.declared.civil.date.Date.{Date as Day}
use Rattle.jiff_core.specs.declared.civil.time.Time.{Time as Clock}
use Rattle.toml_datetime.specs.Parse.{parse_datetime}
use Rattle.toml_datetime.specs.Text.{datetime_text}
use Rattle.toml_datetime.specs.declared.datetime.Date.{Date}
use Rattle.toml_datetime.specs.declared.datetime.Datetime.{Datetime}
use Rattle.toml_datetime.specs.declared.datetime.Time.{Time}
use Rattle.gw_log_words.specs.declared.moment.Moment.{Moment}

-- ---- the text of a moment

-- a day, and a time whose fraction of a second is written so or left out, as RFC 3339 has them
abbrev pub day_of : Day → Date
day_of d = record { year = unsigned_abs d.year; month = d.month; day = d.day }

abbrev pub time_with : Clock → Option ℕ → Time
time_with t fraction = record { hour = t.hour; minute = t.minute; second = Some t.second; nanosecond = fraction }

abbrev pub written_with : Moment → Option ℕ → Datetime
written_with m fraction = record {
  date = Some (day_of m.local.date);
  time = Some (time_with m.local.time fraction);
  offset = Some m.offset;
}

-- a fraction of 0 is left out
abbrev pub fraction_of : ℕ → Option ℕ
fraction_of nanosecond = if nanosecond == 0 then None else Some nanosecond

abbrev pub written : Moment → Datetime
written m = written_with m (fraction_of m.local.time.subsec_nanosecond)

-- `2026-11-25T08:00:17+01:00`
abbrev pub moment_text : Moment → List ℕ
moment_text m = datetime_text (written m)

-- ---- what is read

-- a fraction that is left out is 0
abbrev pub nanosecond_of : Option ℕ → ℕ
nanosecond_of fraction = option_map_or (λ n. n) fraction 0

-- the text gives the moment: its date, its time with the second, and its offset
pub record IsTextOf (text : List ℕ) (m : Moment) : Type 0 where
  pub fraction : Option ℕ
  pub nanosecond : nanosecond_of fraction ≡ m.local.time.subsec_nanosecond
  pub read : parse_datetime text ≡ Some (written_with m fraction)

-- what is read of a text: the moment that it gives, and none if it gives none
abbrev pub IsRead : List ℕ → Option Moment → Type 0
IsRead text (Some m) = IsTextOf text m
IsRead text None = (m : Moment) → ¬ (IsTextOf text m)

-- ---- what comes later

-- so many ticks later by the same clock: a tick is a second, and a day has 86,400 of them
pub record IsLater (start : Moment) (ticks : ℕ) (m : Moment) : Type 0 where
  pub nanoseconds : civil_nanos m.local ≡ civil_nanos start.local +ℤ pos (ticks * 1000000000)
  pub offset : m.offset ≡ start.offset

-- the moment that comes so much later, and none where that is past the year 9999
abbrev pub ComesLater : Moment → ℕ → Option Moment → Type 0
ComesLater start ticks (Some m) = IsLater start ticks m
ComesLater start ticks None = (m : Moment) → ¬ (IsLater start ticks m)

-- the moment of a tick of a log that began then: none where it isn't known when
abbrev pub IsMomentOf : Option Moment → ℕ → Option Moment → Type 0
IsMomentOf None tick at = at ≡ None
IsMomentOf (Some start) tick at = ComesLater start tick at

-- what comes before the words: the moment and a space, if there is one
abbrev pub front_text : Option Moment → List ℕ
front_text at = option_map_or (λ m. moment_text m ++ codes " ") at []
