-- A worked moment, for callers that read its text.
use Rattle.std.proofs.Common.{◌≡◌, ◌∙◌, ℕ, List, Option, Some, None, pos, refl, sym, ap, arith, codes}
use Rattle.jiff_core.proofs.SignedLemmas.{signed_arith}
use Rattle.toml_datetime.specs.Parse.{parse_datetime}
use Rattle.toml_datetime.specs.Text.{date_text, datetime_text, offset_text, time_text, two_wide}
use Rattle.toml_datetime.specs.declared.datetime.Datetime.{Datetime}
use Rattle.toml_datetime.specs.declared.datetime.Offset.TheVariants.{Custom}
use Rattle.toml_datetime.specs.declared.datetime.Time.{Time}
use Rattle.toml_datetime.proofs.OnLiterals.{toml_datetime_on_literals}
use Rattle.gw_log_words.specs.Moment.{IsTextOf, fraction_of, moment_text, nanosecond_of, written_with}
use Rattle.gw_log_words.specs.declared.moment.Moment.{Moment}

abbrev pub morning_text : List ℕ
morning_text = codes "2026-11-25T08:00:00+01:00"

pub morning : Moment
morning = record {
  local = record {
    date = record {
      year = pos 2026;
      month = 11;
      day = 25;
      year_in = omega (arith, signed_arith);
      month_in = omega arith;
      day_in = omega arith;
    };
    time = record {
      hour = 8;
      minute = 0;
      second = 0;
      subsec_nanosecond = 0;
      hour_in = omega arith;
      minute_in = omega arith;
      second_in = omega arith;
      subsec_in = omega arith;
    };
  };
  offset = Custom (pos 60);
  year = omega (arith, signed_arith);
}

pub morning_is_read : IsTextOf morning_text morning
unfolding morning toml_datetime_on_literals
morning_is_read = record { fraction = None; nanosecond = refl; read = refl }

-- what the text writes
morning_written : Datetime
morning_written = written_with morning None

written_is_read : parse_datetime morning_text ≡ Some morning_written
unfolding morning morning_written toml_datetime_on_literals
written_is_read = refl

written_text : datetime_text morning_written ≡ morning_text
unfolding morning morning_written datetime_text date_text time_text offset_text two_wide
written_text = refl

same_inside : {A : Type 0} (x y : A) → Some x ≡ Some y → x ≡ y
same_inside x y e = cc

-- a moment that the text gives has that text
pub morning_is_told : (m : Moment) → IsTextOf morning_text m → moment_text m ≡ morning_text
unfolding morning morning_written
morning_is_told m is =
    let written : morning_written ≡ written_with m is.fraction = same_inside _ _ (sym written_is_read ∙ is.read) in
    let times = same_inside _ _ (ap (λ (d : Datetime). d.time) written) in
    let no_fraction : is.fraction ≡ None = sym (ap (λ (t : Time). t.nanosecond) times) in
    let nanosecond : m.local.time.subsec_nanosecond ≡ 0 = sym is.nanosecond ∙ ap (λ (f : Option ℕ). nanosecond_of f) no_fraction in
    ap (λ (n : ℕ). datetime_text (written_with m (fraction_of n))) nanosecond
    ∙ ap (λ (f : Option ℕ). datetime_text (written_with m f)) (sym no_fraction)
    ∙ ap datetime_text (sym written) ∙ written_text
