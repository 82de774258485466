-- Moments by a clock: one comes so much later, and none past the last year.
use Rattle.std.proofs.Common.{◌≡◌, ℕ, ◌*◌, ◌++◌, inl, Bool, List, [], ◌∷◌, Result, Ok, Err, append_assoc, Option, Some, None, codes, refl, sym, ap, subst, ◌∙◌, arith, ℤ, pos, ◌+ℤ◌, ◌≤ℤ◌, negsuc}
use Rattle.std.specs.Prelude.{OnOk, unsigned_abs}
use Rattle.std.proofs.lemmas.Int.{by_lt_z}
use Rattle.jiff_core.specs.Calendar.{IsDate}
use Rattle.jiff_core.specs.declared.civil.date.Date.{Date as Day}
use Rattle.jiff_core.specs.declared.civil.datetime.DateTime.{DateTime}
use Rattle.jiff_core.specs.DateTime.{IsCivilNanos, civil_nanos}
use Rattle.jiff_core.proofs.SignedLemmas.{signed_arith}
use Rattle.jiff_core.proofs.DateLemmas.{epoch_day-lt, epoch_day_injective}
use Rattle.jiff_core.proofs.DateTimeLemmas.{civil_nanos-lt, civil_nanos_injective, civil_nanos_range, time_nanos_injective}
use Rattle.gw_log_words.specs.Moment.{ComesLater, IsLater, IsMomentOf, IsTextOf, day_of, fraction_of, front_text, moment_text, time_with, written_with}
use Rattle.gw_audit.specs.Entry.{IsLineOf, IsShowable, denial_of}
use Rattle.gw_log_words.specs.Translation.{IsTranslatedAs}
use Rattle.gw_audit.specs.declared.entry.ShownAsk.{ShownAsk}
use Rattle.gw_audit.proofs.TranslatingLemmas.{shown_again}
use Rattle.gw_log_words.specs.Words.{words_of}
use Rattle.gw_audit.specs.declared.entry.Shown.{Shown}
use Rattle.gw_log_words.specs.internal.Written.{IsClock}
use Rattle.gw_log_words.specs.declared.moment.Moment.{Moment}
use Rattle.toml_datetime.specs.Parse.{parse_datetime}
use Rattle.toml_datetime.specs.Text.{datetime_text}
use Rattle.toml_datetime.specs.declared.datetime.Date.{Date}
use Rattle.toml_datetime.specs.declared.datetime.Datetime.{Datetime}
use Rattle.toml_datetime.specs.declared.datetime.Offset.{Offset}
use Rattle.toml_datetime.specs.declared.datetime.Time.{Time}

-- a later moment is in no earlier year
pub year_later : (a b : DateTime) (n : ℕ) → civil_nanos a ≡ civil_nanos b +ℤ pos n → pos 0 ≤ℤ b.date.year → pos 0 ≤ℤ a.date.year
year_later a b n e year =
    by_lt_z a.date.year (pos 0)
    (λ lt. absurd (omega (arith, signed_arith, e, civil_nanos-lt a b (epoch_day-lt a.date b.date (inl (omega (arith, signed_arith, lt, year)))))))
    (λ ge. ge)

-- the text of a moment of these parts
text_of_parts : ℤ → ℕ → ℕ → ℕ → ℕ → ℕ → ℕ → Offset → List ℕ
text_of_parts year month day hour minute second nanosecond offset = datetime_text (record {
  date = Some (record { year = unsigned_abs year; month = month; day = day });
  time = Some (record { hour = hour; minute = minute; second = Some second; nanosecond = fraction_of nanosecond });
  offset = Some offset;
})

by_parts : (m : Moment) → moment_text m
    ≡ text_of_parts m.local.date.year m.local.date.month m.local.date.day m.local.time.hour m.local.time.minute m.local.time.second
    m.local.time.subsec_nanosecond m.offset
unfolding text_of_parts
by_parts m = refl

-- two moments of the same clock with the same nanoseconds have one text
same_text : (a b : Moment) → civil_nanos a.local ≡ civil_nanos b.local → a.offset ≡ b.offset → moment_text a ≡ moment_text b
same_text a b e offset =
    let parts = civil_nanos_injective a.local b.local e in
    let day = epoch_day_injective a.local.date b.local.date parts.0 in
    let time = time_nanos_injective a.local.time b.local.time parts.1 in
    by_parts a ∙ rw (day.0, day.1, day.2, time.0, time.1, time.2, time.3, offset) refl ∙ sym (by_parts b)

one_later : (start : Moment) (ticks : ℕ) (a b : Option Moment) → ComesLater start ticks a → ComesLater start ticks b
    → front_text a ≡ front_text b
one_later start ticks (Some a) (Some b) of_a of_b =
    ap (λ t. t ++ codes " ") (same_text a b (of_a.nanoseconds ∙ sym of_b.nanoseconds) (of_a.offset ∙ sym of_b.offset))
one_later start ticks (Some a) None of_a none = absurd (none a of_a)
one_later start ticks None (Some b) none of_b = absurd (none b of_b)
one_later start ticks None None none other = refl

-- a tick has one moment
pub one_front : (start : Option Moment) (tick : ℕ) (a b : Option Moment) → IsMomentOf start tick a → IsMomentOf start tick b
    → front_text a ≡ front_text b
one_front None tick a b of_a of_b = ap front_text (of_a ∙ sym of_b)
one_front (Some start) tick a b of_a of_b = one_later start tick a b of_a of_b

-- no moment comes later than the calendar's last
pub none_later : (start : Moment) (ticks : ℕ) (m : Moment) → IsLater start ticks m
    → IsCivilNanos (civil_nanos start.local +ℤ pos (ticks * 1000000000))
none_later start ticks m later = subst IsCivilNanos later.nanoseconds (civil_nanos_range m.local)

whole_abs : (z : ℤ) → pos 0 ≤ℤ z → pos (unsigned_abs z) ≡ z
whole_abs (pos n) h = refl
whole_abs (negsuc n) h = absurd (omega (arith, signed_arith, h))

-- a day that is written is one of the calendar
pub is_date : (date : Date) (d : Day) (year month day : ℤ) → year ≡ pos date.year → month ≡ pos date.month → day ≡ pos date.day
    → pos 0 ≤ℤ d.year → date ≡ day_of d → IsDate year month day
is_date date d year month day of_year of_month of_day since e =
    let years : year ≡ d.year = of_year ∙ ap (λ (x : Date). pos x.year) e ∙ whole_abs d.year since in
    let months : month ≡ pos d.month = of_month ∙ ap (λ (x : Date). pos x.month) e in
    let days : day ≡ pos d.day = of_day ∙ ap (λ (x : Date). pos x.day) e in
    rw (years, months, days) (
      d.year_in,
      omega (arith, signed_arith, d.month_in),
      omega (arith, signed_arith, d.day_in),
    )

-- a text whose time of day no clock shows gives no moment
pub no_clock : (text : List ℕ) (read : Datetime) (time : Time) → parse_datetime text ≡ Some read → read.time ≡ Some time → IsClock time None
    → (m : Moment) → ¬ (IsTextOf text m)
no_clock text read time is has none m translated =
    let written : read ≡ written_with m translated.fraction = cc in
    let clock : Some time ≡ Some (time_with m.local.time translated.fraction) = sym has ∙ ap (λ (d : Datetime). d.time) written in
    none m.local.time translated.fraction translated.nanosecond cc

-- the text for a line that shows a denial: the moment of its tick, and its words
pub tells_shown : {T F : Type 0} (r : Result T F) (start : Option Moment) (allowed : Bool) (line : List ℕ) (shown : Shown) (at : Option Moment) (a b text : List ℕ)
    → IsLineOf line (denial_of shown) → IsShowable (denial_of shown) → IsMomentOf start shown.tick at → a ≡ [] → b ≡ a ++ front_text at
    → OnOk r (text ≡ b ++ (words_of allowed shown.ask shown.rule.now ++ 10 ∷ [])) → OnOk r (IsTranslatedAs start allowed line text)
tells_shown (Ok x) start allowed line shown at a b text spelled is moment none front then = inl (record {
  denial = denial_of shown;
  showable = is;
  spelled = spelled;
  translated = record {
    at = at;
    moment = moment;
    translated = then ∙ ap (λ (t : List ℕ). t ++ (words_of allowed shown.ask shown.rule.now ++ 10 ∷ [])) (front ∙ ap (λ (t : List ℕ). t ++ front_text at) none)
        ∙ sym (append_assoc (front_text at) (words_of allowed shown.ask shown.rule.now) (10 ∷ []))
        ∙ ap (λ (ask : ShownAsk). front_text at ++ words_of allowed ask shown.rule.now ++ 10 ∷ []) (sym (shown_again shown.number shown.tick shown.rule.now shown.ask));
  };
})
tells_shown (Err e) start allowed line shown at a b text spelled is moment none front then = then
