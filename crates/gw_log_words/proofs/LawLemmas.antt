-- Which fields are looked for, and that a denial's line is told as before.
use Rattle.std.proofs.Common.{◌≡◌, ◌∙◌, ◌-◌, ◌++◌, ◌<◌, ◌≤◌, rules, ℕ, Bool, true, false, List, [], ◌∷◌, length, get_or, take, drop, decimal, Option, Some, None, Result, Ok, Err, codes, refl, sym, ap, subst, arith}
use Rattle.std.specs.Prelude.{is_some, IsTrue, OnOk}
use Rattle.std.proofs.lemmas.List.{length-drop}
use Rattle.std.specs.Char.{IsAsciiDigit}
use Rattle.std.proofs.lemmas.Fmt.{decimal_nonempty}
use Rattle.gw_addr.proofs.Lacking.{not_in_decimal}
use Rattle.gw_audit.proofs.AskLemmas.{number_to_takes}
use Rattle.gw_audit.specs.Entry.{IsLineOf, IsShowable}
use Rattle.gw_log_words.specs.Translation.{IsTranslatedAs}
use Rattle.gw_audit.specs.declared.denial.Denial.{Denial}
use Rattle.gw_log_words.specs.declared.moment.Moment.{Moment}
use Rattle.gw_audit.specs.internal.Reading.{◌>>=◌, ask_at, denial_of_parts, line_in, number_to, rule_at, shown_by, whole_ask}
use Rattle.gw_audit.proofs.TranslatingLemmas.{line_again, line_takes, told_again, told_takes}
use Rattle.gw_log_words.specs.Fields.{fields_of, is_denial, shows_ask}
use Rattle.gw_log_words.specs.Laws.{AreFields, SaysAllowed, StaysAsBefore}
use Rattle.gw_log_words.specs.Translating.{IsTranslatedBehind, IsTranslationOf}
use Rattle.gw_log_words.proofs.FieldsLemmas.{end_found, goes_on}
use Rattle.gw_log_words.proofs.OnceLemmas.{each}

is_true : (b : Bool) → IsTrue b → b ≡ true
is_true b t = search rules

from_true : (b : Bool) → b ≡ true → IsTrue b
from_true b e = search rules

some_there : {A : Type 0} (r : Option A) → is_some r ≡ true → (x : A) × (r ≡ Some x)
some_there (Some x) e = (x, refl)
some_there None e = absurd cc

pub are_fields : (text : List ℕ) → AreFields text
are_fields text = record {
  denial = λ t.
      let found = some_there (line_in text) (is_true (is_denial text) t) in
      let taken = line_takes text found.0 found.1 in
      (found.0, taken.is, taken.line);
  of_denial = λ d is line. from_true (is_denial text) (ap is_some (line_again text d is line));
  ask = λ t.
      let found = some_there (shown_by (line_in text) text) (is_true (shows_ask text) t) in
      (found.0, told_takes text found.0 found.1);
  of_ask = λ ask translates. from_true (shows_ask text) (ap is_some (told_again text ask translates));
}

-- the line of a denial is its own fields
pub own_line : (line : List ℕ) (d : Denial) → IsShowable d → IsLineOf line d → fields_of is_denial line ≡ Some line
own_line line d is spelled = end_found is_denial true line refl (ap is_some (line_again line d is spelled))

pub stays_as_before : StaysAsBefore
stays_as_before start d line text is spelled translated =
    let own = own_line line d is spelled in
    let none : length line - length line ≡ 0 = omega arith in
    let found = subst (λ (f : Option (List ℕ)). IsTranslationOf start line f text) own translated in
    let alone = subst (λ (n : ℕ). IsTranslatedBehind start (take n line) line text) none found in
    subst (IsTranslatedAs start false line) (sym alone.2) alone.1

first_octet : (word rest text : List ℕ) (c : ℕ) → 0 < length word → word ++ rest ≡ c ∷ text → get_or word 0 0 ≡ c
first_octet [] rest text c some e = absurd (omega (arith, some))
first_octet (x ∷ word) rest text c some e = cc

letter_a : ¬ (IsAsciiDigit 97)
letter_a h = absurd (omega (arith, h))

-- a line that begins with `allow` begins with no number,
none_number : (line : List ℕ) (found : Option (ℕ × List ℕ)) → number_to 32 (codes "allow " ++ line) ≡ found → found ≡ None
none_number line None e = refl
none_number line (Some number) e =
    let took = number_to_takes 32 (codes "allow " ++ line) number.0 number.1 e in
    let some = decimal_nonempty number.0 took.1 in
    let first = first_octet (decimal number.0) (32 ∷ number.1) (108 ∷ 108 ∷ 111 ∷ 119 ∷ 32 ∷ line) 97 some (sym took.0) in
    absurd (not_in_decimal number.0 97 took.1 letter_a 0 some first)

-- so it is no denial's
none_behind : (line : List ℕ) → is_denial (codes "allow " ++ line) ≡ false
none_behind line =
    ap (λ (found : Option (ℕ × List ℕ)). is_some (found >>= (λ number. number_to 32 number.1 >>= (λ tick. ask_at tick.1 >>= (λ asked.
    rule_at asked.2 >>= (λ rule. whole_ask asked.0 asked.1 rule.1 >>= (λ ask. Some (denial_of_parts number.0 tick.0 ask rule.0))))))))
    (none_number line (number_to 32 (codes "allow " ++ line)) refl)

-- the line of a denial after the word `allow` is the own fields of both
pub behind_allow : (line : List ℕ) (d : Denial) → IsShowable d → IsLineOf line d → fields_of is_denial (codes "allow " ++ line) ≡ Some line
behind_allow line d is spelled =
    goes_on is_denial true 97 (108 ∷ 108 ∷ 111 ∷ 119 ∷ 32 ∷ line) (none_behind line)
    ∙ goes_on is_denial false 108 (108 ∷ 111 ∷ 119 ∷ 32 ∷ line) refl
    ∙ goes_on is_denial false 108 (111 ∷ 119 ∷ 32 ∷ line) refl
    ∙ goes_on is_denial false 111 (119 ∷ 32 ∷ line) refl
    ∙ goes_on is_denial false 119 (32 ∷ line) refl
    ∙ goes_on is_denial false 32 line refl
    ∙ end_found is_denial true line refl (ap is_some (line_again line d is spelled))

pub says_allowed : SaysAllowed
says_allowed start d line text is spelled translated =
    let own = behind_allow line d is spelled in
    let word : length (codes "allow " ++ line) - length line ≡ 6 = omega arith in
    let found = subst (λ (f : Option (List ℕ)). IsTranslationOf start (codes "allow " ++ line) f text) own translated in
    let behind = subst (λ (n : ℕ). IsTranslatedBehind start (take n (codes "allow " ++ line)) line text) word found in
    (behind.0, each start true d line behind.0 is spelled behind.1, behind.2)

pub told_behind : (start : Option Moment) (line : List ℕ) (at : ℕ) (fields : Option (List ℕ)) (text : List ℕ) → Some (drop at line) ≡ fields
    → at ≤ length line → IsTranslatedBehind start (take at line) (drop at line) text → IsTranslationOf start line fields text
told_behind start line at fields text is within made =
    let place : at ≡ length line - length (drop at line) = omega (arith, within, length-drop at line) in
    subst (λ (f : Option (List ℕ)). IsTranslationOf start line f text) is
    (subst (λ (n : ℕ). IsTranslatedBehind start (take n line) (drop at line) text) place made)

pub told_whole : (start : Option Moment) (line : List ℕ) (fields : Option (List ℕ)) (text : List ℕ) → None ≡ fields → text ≡ line ++ 10 ∷ []
    → IsTranslationOf start line fields text
told_whole start line fields text is written = subst (λ (f : Option (List ℕ)). IsTranslationOf start line f text) is written

pub ok_then : {E P Q : Type 0} (r : Result (Unit {0}) E) → OnOk r P → (P → Q) → OnOk r Q
ok_then (Ok done) p f = f p
ok_then (Err e) p f = p
