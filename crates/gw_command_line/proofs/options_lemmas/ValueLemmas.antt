-- The number that a text says, by what `parse` makes of it.
use Rattle.std.proofs.Common.{◌≡◌, ◌∙◌, ℕ, true, false, refl, sym, ap, Bool, Option, Some, None}
use Rattle.std.specs.Prelude.{if◌then◌else◌}
use Rattle.std.specs.Str.Parse.{digits_value, without_leading_plus}
use Rattle.clap.specs.Words.{IsUnsignedIn, Text}
use Rattle.clap.specs.ValueTests.{is_unsigned_in}
use Rattle.clap.specs.declared.builder.value_parser.ValueParser.TheVariants.{Unsigned}
use Rattle.clap.proofs.ValueTestLemmas.{Accepts-accepts, accepts-Accepts}
use Rattle.gw_command_line.specs.options.Values.{IsNumber, number_in}

-- a text that says a number in the range says it
says : (most : ℕ) (text : Text) → IsUnsignedIn 1 most text
    → number_in most text ≡ Some (digits_value 10 (without_leading_plus text))
says most text is = rw (Accepts-accepts false (Unsigned 1 most) text is) refl

-- another says none
chosen : (b : Bool) (n : ℕ) → (b ≡ true → ⊥) → (if b then Some n else None) ≡ None
chosen true n never = absurd (never refl)
chosen false n never = refl

says_none : (most : ℕ) (text : Text) → (IsUnsignedIn 1 most text → ⊥) → number_in most text ≡ None
says_none most text never =
    chosen (is_unsigned_in 1 most text) (digits_value 10 (without_leading_plus text))
    (λ is. never (accepts-Accepts false (Unsigned 1 most) text is))

-- what `parse` reads is what the text says
pub number_is : (most : ℕ) (text : Text) (read : Option ℕ) → IsNumber most text read → read ≡ number_in most text
number_is most text (Some n) is = ap Some is.1 ∙ sym (says most text is.0)
number_is most text None never = sym (says_none most text never)
