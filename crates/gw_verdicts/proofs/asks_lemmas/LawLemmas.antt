-- What is given of a text is what shows its asks.
use Rattle.std.proofs.Common.{◌≡◌, ◌≢◌, ◌∙◌, ℕ, suc, ◌≤◌, Bool, true, false, List, [], ◌∷◌, length, Option, Some, None, refl, sym, ap, subst, arith}
use Rattle.std.specs.Prelude.{◌==◌, ◌&&◌, All, nat_le, if◌then◌else◌}
use Rattle.std.specs.List.{AllByRecursion, cons_option}
use Rattle.std.proofs.lemmas.Bool.Decides.{nat_tests}
use Rattle.std.proofs.lemmas.List.Elements.{All-from_recursion, recursion_from_All}
use Rattle.gw_addr.specs.Text.{Lacks}
use Rattle.gw_addr.proofs.Lacking.{lacks_cons}
use Rattle.gw_script.specs.Script.{lines_of, onto_first}
use Rattle.gw_script.proofs.EventLemmas.{ended_lines}
use Rattle.gw_log_words.specs.Fields.{end_from, fields_of, shows_ask}
use Rattle.gw_log_words.proofs.FieldsLemmas.{end_found}
use Rattle.gw_verdicts.specs.asks.Asks.{ask_lines, ended, shown_by, shown_in}
use Rattle.gw_verdicts.specs.asks.Laws.{EachIsAsk, GivenAgain, PlainStays}
use Rattle.gw_verdicts.proofs.asks_lemmas.StepLemmas.{some_shown}

-- ---- no line has a line feed

lacks_none : Lacks 10 []
lacks_none i lt = absurd (omega (arith, lt))

onto_lacks : (c : ℕ) (lines : List (List ℕ)) → (c == 10) ≡ false → AllByRecursion (Lacks 10) lines → AllByRecursion (Lacks 10) (onto_first c lines)
onto_lacks c [] other all =
    let differs : c ≢ 10 = grind (arith, nat_tests, other) in
    (lacks_cons 10 c [] differs lacks_none, tt)
onto_lacks c (line ∷ lines) other all =
    let differs : c ≢ 10 = grind (arith, nat_tests, other) in
    (lacks_cons 10 c line differs all.0, all.1)

lack_at : (c : ℕ) (text : List ℕ) (b : Bool) → (c == 10) ≡ b → AllByRecursion (Lacks 10) (lines_of text)
    → AllByRecursion (Lacks 10) (if b then [] ∷ lines_of text else onto_first c (lines_of text))
lack_at c text true is later = (lacks_none, later)
lack_at c text false is later = onto_lacks c (lines_of text) is later

lines_lack : (text : List ℕ) → AllByRecursion (Lacks 10) (lines_of text)
unfolding lines_of
lines_lack [] = tt
lines_lack (c ∷ text) = lack_at c text (c == 10) refl (lines_lack text)

-- ---- an end of a line that passes a test

record IsEnd (passes : List ℕ → Bool) (text fields : List ℕ) : Type 0 where
  passed : passes fields ≡ true
  lacks : Lacks 10 text → Lacks 10 fields
  within : length fields ≤ length text

itself : (passes : List ℕ → Bool) (begins : Bool) (text fields : List ℕ) → (begins && passes text) ≡ true → Some text ≡ Some fields
    → IsEnd passes text fields
itself passes begins text fields holds e =
    let same : text ≡ fields = cc in
    subst (IsEnd passes text) same (record { passed = and_second begins (passes text) holds; lacks = λ h. h; within = omega arith })
  where
    and_second : (a b : Bool) → (a && b) ≡ true → b ≡ true
    and_second true b h = h
    and_second false b h = absurd cc

none_some : {A : Type 0} (x : A) → None ≡ Some x → ⊥
none_some x e = cc

module _ (passes : List ℕ → Bool) where
  at_end : (begins b : Bool) (fields : List ℕ) → (begins && passes []) ≡ b → (if b then Some [] else None) ≡ Some fields
      → IsEnd passes [] fields
  at_end begins true fields is e = itself passes begins [] fields is e
  at_end begins false fields is e = absurd (none_some fields e)

  further : (begins b : Bool) (c : ℕ) (text fields : List ℕ) → (begins && passes (c ∷ text)) ≡ b
      → (end_from passes (c == 32) text ≡ Some fields → IsEnd passes text fields)
      → (if b then Some (c ∷ text) else end_from passes (c == 32) text) ≡ Some fields → IsEnd passes (c ∷ text) fields
  further begins true c text fields is later e = itself passes begins (c ∷ text) fields is e
  further begins false c text fields is later e =
      let end = later e in record {
        passed = end.passed;
        lacks = λ h. end.lacks (λ i lt. h (suc i) (omega (arith, lt)));
        within = omega (arith, end.within);
      }

  end_is : (begins : Bool) (text fields : List ℕ) → end_from passes begins text ≡ Some fields → IsEnd passes text fields
  unfolding end_from
  end_is begins [] fields e = at_end begins (begins && passes []) fields refl e
  end_is begins (c ∷ text) fields e = further begins (begins && passes (c ∷ text)) c text fields refl (end_is (c == 32) text fields) e

-- ---- the own fields of a line

record IsShown (line fields : List ℕ) : Type 0 where
  few : length line ≤ 4096
  own : fields_of shows_ask line ≡ Some fields

shown_at : (b : Bool) (line fields : List ℕ) → nat_le (length line) 4096 ≡ b → (if b then fields_of shows_ask line else None) ≡ Some fields
    → IsShown line fields
shown_at true line fields is e = record { few = grind (arith, nat_tests, is); own = e }
shown_at false line fields is e = absurd (none_some fields e)

is_shown : (line fields : List ℕ) → shown_in line ≡ Some fields → IsShown line fields
is_shown line fields e = shown_at (nat_le (length line) 4096) line fields refl e

-- a line that shows an ask by itself, of at most 4096 octets
abbrev IsPlain : List ℕ → Type 0
IsPlain line = (shows_ask line ≡ true) × (length line ≤ 4096)

plain_shown : (line : List ℕ) → IsPlain line → shown_in line ≡ Some line
plain_shown line plain = some_shown line line plain.1 (sym (end_found shows_ask true line refl plain.0))

abbrev IsGiven : List ℕ → Type 0
IsGiven fields = IsPlain fields × Lacks 10 fields

given_more : (line : List ℕ) (o : Option (List ℕ)) (fields : List (List ℕ)) → shown_in line ≡ o → Lacks 10 line
    → AllByRecursion IsGiven fields → AllByRecursion IsGiven (cons_option o fields)
given_more line None fields is lacks all = all
given_more line (Some own) fields is lacks all =
    let shown = is_shown line own is in
    let end = end_is shows_ask true line own shown.own in
    (((end.passed, omega (arith, end.within, shown.few)), end.lacks lacks), all)

all_given : (lines : List (List ℕ)) → AllByRecursion (Lacks 10) lines → AllByRecursion IsGiven (shown_by lines)
all_given [] all = tt
all_given (line ∷ lines) all = given_more line (shown_in line) (shown_by lines) refl all.0 (all_given lines all.1)

only_lack : (fields : List (List ℕ)) → AllByRecursion IsGiven fields → AllByRecursion (Lacks 10) fields
only_lack [] all = tt
only_lack (own ∷ fields) all = (all.0.1, only_lack fields all.1)

only_plain : (fields : List (List ℕ)) → AllByRecursion IsGiven fields → AllByRecursion IsPlain fields
only_plain [] all = tt
only_plain (own ∷ fields) all = (all.0.0, only_plain fields all.1)

only_shown : (fields : List (List ℕ)) → AllByRecursion IsGiven fields → AllByRecursion (λ line. shows_ask line ≡ true) fields
only_shown [] all = tt
only_shown (own ∷ fields) all = (all.0.0.0, only_shown fields all.1)

plain_stay : (lines : List (List ℕ)) → AllByRecursion IsPlain lines → shown_by lines ≡ lines
plain_stay [] all = refl
plain_stay (line ∷ lines) all =
    ap (λ (o : Option (List ℕ)). cons_option o (shown_by lines)) (plain_shown line all.0)
    ∙ ap (λ (l : List (List ℕ)). line ∷ l) (plain_stay lines all.1)

-- ---- the laws

given_of_text : (text : List ℕ) → AllByRecursion IsGiven (shown_by (lines_of text))
given_of_text text = all_given (lines_of text) (lines_lack text)

lines_given : (text : List ℕ) → lines_of (ask_lines text) ≡ shown_by (lines_of text)
lines_given text = ended_lines (shown_by (lines_of text)) (only_lack (shown_by (lines_of text)) (given_of_text text))

pub each_is_ask : (text : List ℕ) → EachIsAsk text
each_is_ask text = record {
  lines = lines_given text;
  shown = subst (All (λ line. shows_ask line ≡ true)) (sym (lines_given text))
      (All-from_recursion (λ line. shows_ask line ≡ true) (shown_by (lines_of text)) (only_shown (shown_by (lines_of text)) (given_of_text text)));
}

pub plain_stays : (text : List ℕ) → PlainStays text
plain_stays text all = ap ended (plain_stay (lines_of text) (recursion_from_All IsPlain (lines_of text) all))

pub given_again : (text : List ℕ) → GivenAgain text
given_again text =
    ap (λ (l : List (List ℕ)). ended (shown_by l)) (lines_given text)
    ∙ ap ended (plain_stay (shown_by (lines_of text)) (only_plain (shown_by (lines_of text)) (given_of_text text)))
