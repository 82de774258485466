-- The whole lines of a text, and the last that shows a denial.
use Rattle.std.proofs.Common.{◌≡◌, ◌≢◌, ◌∙◌, ◌<◌, ◌≤◌, ◌+◌, ℕ, zero, suc, Bool, true, false, inl, inr, List, [], ◌∷◌, ◌++◌, length, take, drop, decimal, Option, Some, None, refl, sym, ap, ap₂, subst, arith, append_assoc}
use Rattle.std.specs.Prelude.{◌==◌, is_some, slice_index, if◌then◌else◌}
use Rattle.std.specs.Char.{IsAsciiDigit}
use Rattle.std.proofs.lemmas.Bool.{ne_eqb}
use Rattle.std.proofs.lemmas.List.{length-append}
use Rattle.gw_addr.specs.Text.{Lacks}
use Rattle.gw_addr.proofs.Lacking.{not_in_decimal, same_split}
use Rattle.gw_audit.proofs.AskLemmas.{number_to_takes}
use Rattle.gw_audit.specs.Entry.{IsLineOf}
use Rattle.gw_audit.specs.declared.denial.Denial.{Denial}
use Rattle.gw_audit.specs.internal.Reading.{◌>>=◌, ask_at, denial_of_parts, number_to, or_else, rule_at, whole_ask}
use Rattle.gw_log_words.specs.Fields.{end_from, fields_of, is_denial}
use Rattle.gw_log_words.specs.LastDenial.{BeginsLine, FindsLast, HidesNothing, ShowsLast, in_front, last_denial, last_shown, whole_lines}
use Rattle.gw_log_words.proofs.FieldsLemmas.{goes_on}

-- ---- the lines of a text

-- a text without a line feed has no whole line
pub none_whole : (text : List ℕ) → Lacks 10 text → whole_lines text ≡ []
unfolding whole_lines
none_whole [] lacks = refl
none_whole (c ∷ text) lacks =
    rw (ne_eqb c 10 (lacks 0 (omega arith))) (ap (in_front c) (none_whole text (λ i lt. lacks (suc i) (omega arith))))

-- one that begins in a line has that first
pub line_whole : (line text : List ℕ) → Lacks 10 line → whole_lines (line ++ 10 ∷ text) ≡ line ∷ whole_lines text
unfolding whole_lines
line_whole [] text lacks = refl
line_whole (c ∷ line) text lacks =
    rw (ne_eqb c 10 (lacks 0 (omega arith))) (ap (in_front c) (line_whole line text (λ i lt. lacks (suc i) (omega arith))))

-- the lines of a text that ends in a line feed, and of what follows it
front_both : (c : ℕ) (first lines more : List (List ℕ)) → 0 < length first → lines ≡ first ++ more → in_front c lines ≡ in_front c first ++ more
front_both c [] lines more some e = absurd (omega (arith, some))
front_both c (line ∷ first) lines more some e = ap (in_front c) e

has_line : (text : List ℕ) → 0 < length (whole_lines (text ++ 10 ∷ []))
unfolding whole_lines
has_line [] = omega arith
has_line (c ∷ text) = by (c == 10) (whole_lines (text ++ 10 ∷ [])) (has_line text)
  where
    by : (b : Bool) (lines : List (List ℕ)) → 0 < length lines → 0 < length (if b then [] ∷ lines else in_front c lines)
    by true lines some = omega (arith, some)
    by false [] some = absurd (omega (arith, some))
    by false (line ∷ lines) some = omega arith

pub both_whole : (text more : List ℕ) → whole_lines (text ++ 10 ∷ more) ≡ whole_lines (text ++ 10 ∷ []) ++ whole_lines more
unfolding whole_lines
both_whole [] more = refl
both_whole (c ∷ text) more = by (c == 10) (both_whole text more)
  where
    by : (b : Bool) → whole_lines (text ++ 10 ∷ more) ≡ whole_lines (text ++ 10 ∷ []) ++ whole_lines more
        → (if b then [] ∷ whole_lines (text ++ 10 ∷ more) else in_front c (whole_lines (text ++ 10 ∷ more)))
        ≡ (if b then [] ∷ whole_lines (text ++ 10 ∷ []) else in_front c (whole_lines (text ++ 10 ∷ []))) ++ whole_lines more
    by true e = ap (λ (l : List (List ℕ)). [] ∷ l) e
    by false e = front_both c (whole_lines (text ++ 10 ∷ [])) (whole_lines (text ++ 10 ∷ more)) (whole_lines more) (has_line text) e

-- ---- the last that shows a denial

or_none : {A : Type 0} (x : Option A) → or_else x None ≡ x
or_none (Some x) = refl
or_none None = refl

or_assoc : {A : Type 0} (x y z : Option A) → or_else (or_else x y) z ≡ or_else x (or_else y z)
or_assoc (Some x) y z = refl
or_assoc None y z = refl

pub shown_both : (lines more : List (List ℕ)) → last_shown (lines ++ more) ≡ or_else (last_shown more) (last_shown lines)
unfolding last_shown
shown_both [] more = sym (or_none (last_shown more))
shown_both (line ∷ lines) more =
    ap (λ (x : Option (List ℕ)). or_else x (fields_of is_denial line)) (shown_both lines more)
    ∙ or_assoc (last_shown more) (last_shown lines) (fields_of is_denial line)

shown_one : (line : List ℕ) → last_shown (line ∷ []) ≡ fields_of is_denial line
unfolding last_shown
shown_one line = refl

shown_none : last_shown [] ≡ None
unfolding last_shown
shown_none = refl

-- one line, and nothing else
pub last_of_one : (line : List ℕ) → Lacks 10 line → last_denial (line ++ 10 ∷ []) ≡ fields_of is_denial line
unfolding whole_lines
last_of_one line lacks = ap last_shown (line_whole line [] lacks) ∙ shown_one line

-- what follows shows one, or else what comes before
pub last_of_both : (text more : List ℕ) → last_denial (text ++ 10 ∷ more) ≡ or_else (last_denial more) (last_denial (text ++ 10 ∷ []))
last_of_both text more = ap last_shown (both_whole text more) ∙ shown_both (whole_lines (text ++ 10 ∷ [])) (whole_lines more)

-- what follows the last line feed shows nothing
pub last_of_cut : (text cut : List ℕ) → Lacks 10 cut → last_denial (text ++ 10 ∷ cut) ≡ last_denial (text ++ 10 ∷ [])
last_of_cut text cut lacks =
    last_of_both text cut
    ∙ ap (λ (x : Option (List ℕ)). or_else x (last_denial (text ++ 10 ∷ []))) (ap last_shown (none_whole cut lacks) ∙ shown_none)

-- no line
pub last_of_none : (text : List ℕ) → Lacks 10 text → last_denial text ≡ None
last_of_none text lacks = ap last_shown (none_whole text lacks) ∙ shown_none

-- the last line shows one, or else what comes before it
pub last_of_last : (before line : List ℕ) → Lacks 10 line
    → last_denial ((before ++ 10 ∷ line) ++ 10 ∷ []) ≡ or_else (fields_of is_denial line) (last_denial (before ++ 10 ∷ []))
last_of_last before line lacks =
    ap last_denial (append_assoc before (10 ∷ line) (10 ∷ []))
    ∙ last_of_both before (line ++ 10 ∷ [])
    ∙ ap (λ (x : Option (List ℕ)). or_else x (last_denial (before ++ 10 ∷ []))) (last_of_one line lacks)

-- ---- a text whose last line comes after others

pub shorter : (text before line : List ℕ) → text ≡ before ++ 10 ∷ line → length before < length text
shorter text before line e = omega (arith, ap (λ (t : List ℕ). length t) e ∙ length-append before (10 ∷ line))

pub last_found : (text before line fields : List ℕ) → text ≡ before ++ 10 ∷ line → Lacks 10 line → Some fields ≡ fields_of is_denial line
    → last_denial (text ++ 10 ∷ []) ≡ Some fields
last_found text before line fields parts lacks shows =
    ap (λ (t : List ℕ). last_denial (t ++ 10 ∷ [])) parts ∙ last_of_last before line lacks
    ∙ ap (λ (x : Option (List ℕ)). or_else x (last_denial (before ++ 10 ∷ []))) (sym shows)

pub last_before : (text before line : List ℕ) → text ≡ before ++ 10 ∷ line → Lacks 10 line → None ≡ fields_of is_denial line
    → last_denial (text ++ 10 ∷ []) ≡ last_denial (before ++ 10 ∷ [])
last_before text before line parts lacks shows =
    ap (λ (t : List ℕ). last_denial (t ++ 10 ∷ [])) parts ∙ last_of_last before line lacks
    ∙ ap (λ (x : Option (List ℕ)). or_else x (last_denial (before ++ 10 ∷ []))) (sym shows)

-- ---- laws

after_line : (line after fields : List ℕ) → Lacks 10 line → fields_of is_denial line ≡ Some fields → last_denial after ≡ None
    → last_denial (line ++ 10 ∷ after) ≡ Some fields
after_line line after fields whole shows none =
    last_of_both line after
    ∙ ap₂ (λ (x y : Option (List ℕ)). or_else x y) none (last_of_one line whole ∙ shows)

pub finds_last : FindsLast
finds_last text d is = (is.fields, by is.before is.begins is.parts, is.spelled)
  where
    by : (before : List ℕ) → BeginsLine before → text ≡ before ++ (is.line ++ 10 ∷ is.after) → last_denial text ≡ Some is.fields
    by before (inl none) parts =
        ap last_denial (parts ∙ ap (λ (b : List ℕ). b ++ (is.line ++ 10 ∷ is.after)) none)
        ∙ after_line is.line is.after is.fields is.whole is.shows is.last
    by before (inr ends) parts =
        ap last_denial (parts ∙ ap (λ (b : List ℕ). b ++ (is.line ++ 10 ∷ is.after)) ends.1 ∙ append_assoc ends.0 (10 ∷ []) (is.line ++ 10 ∷ is.after))
        ∙ last_of_both ends.0 (is.line ++ 10 ∷ is.after)
        ∙ ap (λ (x : Option (List ℕ)). or_else x (last_denial (ends.0 ++ 10 ∷ []))) (after_line is.line is.after is.fields is.whole is.shows is.last)

no_digit : ¬ (IsAsciiDigit 32)
no_digit h = absurd (omega (arith, h))

-- a word that begins with no number is no denial's, nor is what begins with it
none_number : (word line : List ℕ) (found : Option (ℕ × List ℕ)) → Lacks 32 word → ((n : ℕ) → word ≢ decimal n)
    → number_to 32 (word ++ 32 ∷ line) ≡ found → found ≡ None
none_number word line None lacks word_is e = refl
none_number word line (Some number) lacks word_is e =
    let took = number_to_takes 32 (word ++ 32 ∷ line) number.0 number.1 e in
    let same = same_split 32 word (decimal number.0) line number.1 lacks (not_in_decimal number.0 32 took.1 no_digit) took.0 in
    absurd (word_is number.0 same.0)

none_begins : (word line : List ℕ) → Lacks 32 word → ((n : ℕ) → word ≢ decimal n) → is_denial (word ++ 32 ∷ line) ≡ false
none_begins word line lacks word_is =
    ap (λ (found : Option (ℕ × List ℕ)). is_some (found >>= (λ number. number_to 32 number.1 >>= (λ tick. ask_at tick.1 >>= (λ asked.
    rule_at asked.2 >>= (λ rule. whole_ask asked.0 asked.1 rule.1 >>= (λ ask. Some (denial_of_parts number.0 tick.0 ask rule.0))))))))
    (none_number word line (number_to 32 (word ++ 32 ∷ line)) lacks word_is refl)

-- an end within a word is passed over
within_word : (word line : List ℕ) → Lacks 32 word → end_from is_denial false (word ++ 32 ∷ line) ≡ end_from is_denial true line
within_word [] line lacks = goes_on is_denial false 32 line refl
within_word (c ∷ word) line lacks =
    goes_on is_denial false c (word ++ 32 ∷ line) refl
    ∙ ap (λ (b : Bool). end_from is_denial b (word ++ 32 ∷ line)) (ne_eqb c 32 (lacks 0 (omega arith)))
    ∙ within_word word line (λ i lt. lacks (suc i) (omega arith))

pub hides_nothing : HidesNothing
hides_nothing [] line lacks word_is = goes_on is_denial true 32 line (none_begins [] line lacks word_is)
hides_nothing (c ∷ word) line lacks word_is =
    goes_on is_denial true c (word ++ 32 ∷ line) (none_begins (c ∷ word) line lacks word_is)
    ∙ ap (λ (b : Bool). end_from is_denial b (word ++ 32 ∷ line)) (ne_eqb c 32 (lacks 0 (omega arith)))
    ∙ within_word word line (λ i lt. lacks (suc i) (omega arith))
