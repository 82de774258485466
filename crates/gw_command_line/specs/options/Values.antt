-- The values that options are given.
use Rattle.std.specs.Prelude.{◌≡◌, ℕ, Bool, false, true, Option, Some, None, codes, nat_eq, if◌then◌else◌}
use Rattle.std.specs.Cmp.Lexicographic.{pointwise}
use Rattle.std.specs.Option.{option_map}
use Rattle.std.specs.Str.Parse.{digits_value, without_leading_plus}
use Rattle.clap.specs.Words.{IsUnsignedIn, Text}
use Rattle.clap.specs.ValueTests.{is_unsigned_in}
use Rattle.gw_command_line.specs.options.Options.{most_count, most_seconds}

-- the value of each option by its name, and `None` if it isn't given
abbrev pub Values : Type 0
Values = Text → Option Text

-- an option without a value has the text `true` if it is given
abbrev pub is_true : Option Text → Bool
is_true None = false
is_true (Some text) = pointwise nat_eq text (codes "true")

-- whether a word is `hold`, if it is that or `end`
abbrev pub hold_word : Text → Option Bool
hold_word word =
    if pointwise nat_eq word (codes "hold") then Some true
    else if pointwise nat_eq word (codes "end") then Some false
    else None

-- an option of such a word, which is `end` if it isn't given
abbrev pub holds_in : Option Text → Option Bool
holds_in None = Some false
holds_in (Some word) = hold_word word

-- the number from 1 to the most that a text says: a decimal
abbrev pub IsNumber : ℕ → Text → Option ℕ → Type 0
IsNumber most text (Some n) = IsUnsignedIn 1 most text × (n ≡ digits_value 10 (without_leading_plus text))
IsNumber most text None = ¬ (IsUnsignedIn 1 most text)

-- the same, as a function
abbrev pub number_in : ℕ → Text → Option ℕ
number_in most text =
    if is_unsigned_in 1 most text then Some (digits_value 10 (without_leading_plus text)) else None

-- a number of turns or of lines: the most if none is given
abbrev pub count_in : Option Text → Option ℕ
count_in None = Some most_count
count_in (Some text) = number_in most_count text

-- how many seconds lie between two reports, if a number of them is given
abbrev pub period_in : Option Text → Option (Option ℕ)
period_in None = Some None
period_in (Some text) = option_map Some (number_in most_seconds text)
