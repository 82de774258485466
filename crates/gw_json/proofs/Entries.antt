-- What a line of the log shows is the denial whose line it is.
use Rattle.std.proofs.Common.{◌≡◌, ◌∙◌, ◌-◌, ◌≤◌, ℕ, Bool, true, false, List, [], ◌∷◌, ◌++◌, length, take, drop, Option, Some, None, Result, Ok, Err, IfOk, codes, refl, ap, sym, subst, arith}
use Rattle.std.specs.Prelude.{◌==◌, ◌&&◌, if◌then◌else◌, is_some}
use Rattle.std.specs.Global.{Vec}
use Rattle.std.proofs.lemmas.List.{length-drop}
use Rattle.json.specs.Json.{Json}
use Rattle.gw_audit.proofs.TranslatingLemmas.{line_again, line_takes, shown_again}
use Rattle.gw_audit.specs.Entry.{IsLineOf, IsShowable, denial_of, shown_ask}
use Rattle.gw_audit.specs.declared.denial.Denial.{Denial}
use Rattle.gw_audit.specs.declared.entry.Shown.{Shown}
use Rattle.gw_audit.specs.declared.entry.ShownAsk.{ShownAsk}
use Rattle.gw_audit.specs.internal.Reading.{denial_of_parts, line_in}
use Rattle.gw_json.specs.Laws.{DenialsStay, RecordsAllowed}
use Rattle.gw_json.specs.Document.{line_of}
use Rattle.gw_json.specs.Log.{AreFrontMembers, IsDenialIn, IsEntryOf, IsOther, denial_value, shown_value}
use Rattle.gw_log_words.proofs.LawLemmas.{behind_allow, own_line}
use Rattle.gw_log_words.specs.Fields.{end_from, fields_of, is_denial, says_allow}

-- the object of what a line shows is that of the denial whose line it is
same_object : (allowed : Bool) (before : List (List ℕ × Json)) (shown : Shown)
    → line_of (shown_value allowed before shown.number shown.tick shown.ask shown.rule.now) ≡ line_of (denial_value allowed before (denial_of shown))
same_object allowed before shown =
    ap (λ (ask : ShownAsk). line_of (shown_value allowed before shown.number shown.tick ask shown.rule.now))
    (sym (shown_again shown.number shown.tick shown.rule.now shown.ask))

pub entry_shown : {E : Type 0} (r : Result (Vec ℕ) E) (front fields : List ℕ) (shown : Shown) → IsLineOf fields (denial_of shown)
    → IsShowable (denial_of shown)
    → IfOk r (λ text. (before : List (List ℕ × Json)) × AreFrontMembers front before
    × (text.items ≡ line_of (shown_value (says_allow front) before shown.number shown.tick shown.ask shown.rule.now)))
    → IfOk r (λ text. IsDenialIn front fields text.items)
entry_shown (Ok text) front fields shown spelled is made = record {
  denial = denial_of shown;
  showable = is;
  spelled = spelled;
  before = made.0;
  fronted = made.1;
  object = made.2 ∙ same_object (says_allow front) made.0 shown;
}
entry_shown (Err e) front fields shown spelled is made = made

-- own fields that no denial has are none
pub no_fields : {B : Type 0} (fields : List ℕ) → is_denial fields ≡ true → ((d : Denial) → IsShowable d → IsLineOf fields d → ⊥) → B
no_fields {B = B} fields is never = by (line_in fields) refl
  where
    by : (t : Option Denial) → line_in fields ≡ t → B
    by None e = let bad : false ≡ true = sym (ap is_some e) ∙ is in absurd cc
    by (Some d) e =
        let taken = line_takes fields d e in
        absurd (never d taken.is taken.line)

some_same : {A : Type 0} (x y : A) → Some x ≡ Some y → x ≡ y
some_same x y e = cc

last_true : (a b : Bool) → (a && b) ≡ true → b ≡ true
last_true true b h = h
last_true false b h = let bad : false ≡ true = h in absurd cc

found_in : (passes : List ℕ → Bool) (t : Bool) (begins : Bool) (text found : List ℕ) (other : Option (List ℕ)) → (begins && passes text) ≡ t
    → (if t then Some text else other) ≡ Some found → (other ≡ Some found → passes found ≡ true) → passes found ≡ true
found_in passes true begins text found other holds is further =
    subst (λ (e : List ℕ). passes e ≡ true) (some_same text found is) (last_true begins (passes text) holds)
found_in passes false begins text found other holds is further = further is

none_found : {B : Type 0} (found : List ℕ) → None ≡ Some found → B
none_found found e = absurd cc

-- the end of a line that is found passes the test
end_passes : (passes : List ℕ → Bool) (begins : Bool) (text found : List ℕ) → end_from passes begins text ≡ Some found → passes found ≡ true
unfolding end_from
end_passes passes begins [] found e =
    found_in passes (begins && passes []) begins [] found None refl e (λ none. none_found found none)
end_passes passes begins (c ∷ text) found e =
    found_in passes (begins && passes (c ∷ text)) begins (c ∷ text) found (end_from passes (c == 32) text) refl e
    (end_passes passes (c == 32) text found)

pub own_fields : (line : List ℕ) (at : ℕ) → Some (drop at line) ≡ fields_of is_denial line → is_denial (drop at line) ≡ true
own_fields line at is = end_passes is_denial true line (drop at line) (sym is)

entry_behind : (line : List ℕ) (at : ℕ) (fields : Option (List ℕ)) (text : List ℕ) → Some (drop at line) ≡ fields → at ≤ length line
    → IsDenialIn (take at line) (drop at line) text → IsEntryOf line fields text
entry_behind line at fields text is within entry =
    let place : at ≡ length line - length (drop at line) = omega (arith, within, length-drop at line) in
    subst (λ (f : Option (List ℕ)). IsEntryOf line f text) is
    (subst (λ (n : ℕ). IsDenialIn (take n line) (drop at line) text) place entry)

pub entry_made : {E : Type 0} (r : Result (Vec ℕ) E) (line : List ℕ) (at : ℕ) (fields : Option (List ℕ)) → Some (drop at line) ≡ fields
    → at ≤ length line → IfOk r (λ text. IsDenialIn (take at line) (drop at line) text.items) → IfOk r (λ text. IsEntryOf line fields text.items)
entry_made (Ok text) line at fields is within entry = entry_behind line at fields text.items is within entry
entry_made (Err e) line at fields is within entry = entry

pub other_made : {E : Type 0} (r : Result (Vec ℕ) E) (line : List ℕ) (fields : Option (List ℕ)) → None ≡ fields
    → IfOk r (λ text. IsOther line text.items) → IfOk r (λ text. IsEntryOf line fields text.items)
other_made (Ok text) line fields is other = subst (λ (f : Option (List ℕ)). IsEntryOf line f text.items) is other
other_made (Err e) line fields is other = other

-- ---- nothing changes for a denial's line

of_parts : (allowed : Bool) (front : List (List ℕ × Json)) (d : Denial)
    → denial_value allowed front (denial_of_parts d.number d.tick (shown_ask d) d.rule) ≡ denial_value allowed front d
of_parts allowed front d =
    ap (λ (ask : ShownAsk). shown_value allowed front d.number d.tick ask d.rule) (shown_again d.number d.tick d.rule (shown_ask d))

same_value : (allowed : Bool) (front : List (List ℕ × Json)) (d e : Denial) (line : List ℕ) → IsShowable d → IsLineOf line d → IsShowable e → IsLineOf line e
    → denial_value allowed front d ≡ denial_value allowed front e
same_value allowed front d e line d_is d_line e_is e_line =
    let parts_d = denial_of_parts d.number d.tick (shown_ask d) d.rule in
    let parts_e = denial_of_parts e.number e.tick (shown_ask e) e.rule in
    let same : parts_d ≡ parts_e = some_same parts_d parts_e (sym (line_again line d d_is d_line) ∙ line_again line e e_is e_line) in
    sym (of_parts allowed front d) ∙ ap (λ (p : Denial). denial_value allowed front p) same ∙ of_parts allowed front e

pub denials_stay : DenialsStay
denials_stay d line text is spelled entry =
    let own = own_line line d is spelled in
    let none : length line - length line ≡ 0 = omega arith in
    let found = subst (λ (f : Option (List ℕ)). IsEntryOf line f text) own entry in
    let made = subst (λ (n : ℕ). IsDenialIn (take n line) line text) none found in
    made.object
    ∙ ap (λ (rows : List (List ℕ × Json)). line_of (denial_value false rows made.denial)) made.fronted
    ∙ ap line_of (sym (same_value false [] d made.denial line is spelled made.showable made.spelled))

pub records_allowed : RecordsAllowed
records_allowed d line text is spelled entry =
    let own = behind_allow line d is spelled in
    let word : length (codes "allow " ++ line) - length line ≡ 6 = omega arith in
    let found = subst (λ (f : Option (List ℕ)). IsEntryOf (codes "allow " ++ line) f text) own entry in
    let made = subst (λ (n : ℕ). IsDenialIn (take n (codes "allow " ++ line)) line text) word found in
    (made.before, made.fronted, made.object ∙ ap line_of (sym (same_value true made.before d made.denial line is spelled made.showable made.spelled)))
