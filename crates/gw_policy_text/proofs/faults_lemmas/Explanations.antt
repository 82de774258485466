-- What a line shows.
use Rattle.std.proofs.Common.{◌≡◌, ◌≤◌, ◌+◌, Bool, true, false, ℕ, take, if◌then◌else◌, List, [], ◌∷◌, ◌++◌, map, length, nat_lt, codes, Result, Ok, Err, OnOk, rules, refl, ap, ap₂, drop, subst, sym, ◌∙◌}
use Rattle.std.specs.Prelude.{Float, IfOk, Option, vec_items}
use Rattle.std.specs.Global.{Vec}
use Rattle.std.specs.List.{list_all}
use Rattle.std.specs.Result.{is_ok}
use Rattle.toml.proofs.Views.{view-Float}
use Rattle.toml.specs.Data.{Members}
use Rattle.toml.specs.View.{view}
use Rattle.toml.specs.declared.value.Value.{Value}
use Rattle.toml.specs.declared.value.Value.TheVariants as value
use Rattle.gw_configuration.specs.declared.fault.ConfigFault.{ConfigFault}
use Rattle.gw_configuration.specs.declared.fault.ConfigFault.TheVariants.{TooMany}
use Rattle.gw_configuration.specs.Configuration.{Configuration}
use Rattle.gw_policy_text.specs.Document.{configuration_of, document, located_configuration}
use Rattle.gw_policy_text.specs.faults.Explanation.{Explains, IsNoDocument, IsTextWanted, IsWanted, IsExplanation, help_words, position_words, tables_in, tables_or}
use Rattle.gw_policy_text.specs.faults.Wanted.{wanted_words}
use Rattle.gw_policy_text.specs.faults.Place.{place_words, value_at}
use Rattle.gw_policy_text.specs.faults.FaultWords.{fault_words, single_words}
use Rattle.gw_configuration.specs.Shown.{is_printed, shown}
use Rattle.gw_configuration.specs.Located.{Find, Located, Read, of_text}
use Rattle.gw_configuration.proofs.Showing.{all_printed}

-- no octet that is shown is a control character
pub all_shown : (octets : List ℕ) → list_all is_printed (shown octets) ≡ true
all_shown octets = all_printed octets

pub fraction_words : (v : Value) (number : Float) → v ≡ value.Float number → single_words (view v) ≡ codes "a number with a fraction"
fraction_words v number is = ap (λ (w : Value). single_words (view w)) is ∙ ap single_words (view-Float number)

-- the line of a fault that was found
pub explained : (text : List ℕ) (located : Located) (top : Members) (Wanted : Located → List ℕ → Type 0) (fault : ConfigFault) (line last : List ℕ)
    (found : Find Configuration) → located.fault ≡ fault
    → line ≡ shown (place_words located top text ++ fault_words fault (value_at located top) ++ last) → Wanted located last
    → found ≡ Err located → IsExplanation text found top Wanted fault line
explained text located top Wanted fault line last found same words wanted first =
    record { located = located; first = first; same = same; last = last; wanted = wanted; words = words }

-- what a buffer holds after a text was appended
pub appended : {T F : Type 0} (result : Result T F) (old new text : List ℕ) → new ≡ (if is_ok result then old ++ text else old) → OnOk result (new ≡ old ++ text)
appended (Ok done) old new text is = is
appended (Err fault) old new text is = search rules

pub too_long : (text : List ℕ) → nat_lt 1048576 (length text) ≡ true → located_configuration text ≡ Err (of_text TooMany)
too_long text is = rw is refl

pub no_document : (text : List ℕ) (fault : ConfigFault) → nat_lt 1048576 (length text) ≡ false → document text ≡ Err fault
    → located_configuration text ≡ Err (of_text fault)
no_document text fault short is = rw (short, is) refl

-- the tables of a text
pub long_tables : (text : List ℕ) → nat_lt 1048576 (length text) ≡ true → tables_in text ≡ Err TooMany
long_tables text is = rw is refl

pub of_document : (text : List ℕ) (tables : Read Members) → nat_lt 1048576 (length text) ≡ false → document text ≡ tables
    → tables_in text ≡ tables
of_document text tables short is = rw short is

-- the line of a text without tables, and of one with them
pub no_tables : {E : Type 0} (text : List ℕ) (fault_named fault : ConfigFault) (result : Result (Option (List ℕ)) E) → tables_in text ≡ Err fault_named
    → IfOk result (λ line. Explains text (located_configuration text) (tables_or (Err fault_named)) (λ (at : Located) (w : List ℕ). IsTextWanted text w) fault line)
    → IfOk result (λ line. Explains text (located_configuration text) (tables_or (tables_in text)) (IsWanted text (tables_in text)) fault line)
no_tables text fault_named fault result is line =
    subst
    (λ (t : Read Members). IfOk result (λ line. Explains text (located_configuration text) (tables_or t) (IsWanted text t) fault line))
    (sym is) line

pub of_tables : {E : Type 0} (text : List ℕ) (top : Members) (fault : ConfigFault) (result : Result (Option (List ℕ)) E)
    → nat_lt 1048576 (length text) ≡ false → document text ≡ Ok top
    → IfOk result (λ line. Explains text (configuration_of top) top (λ (at : Located) (w : List ℕ). w ≡ wanted_words at top) fault line)
    → IfOk result (λ line. Explains text (located_configuration text) (tables_or (tables_in text)) (IsWanted text (tables_in text)) fault line)
of_tables text top fault result short is line =
    let found : located_configuration text ≡ configuration_of top = rw (short, is) refl in
    subst
    (λ (f : Find Configuration). IfOk result (λ line. Explains text f (tables_or (tables_in text)) (IsWanted text (tables_in text)) fault line))
    (sym found)
    (subst
    (λ (t : Read Members). IfOk result (λ line. Explains text (configuration_of top) (tables_or t) (IsWanted text t) fault line))
    (sym (of_document text (Ok top) short is)) line)

-- the words of a text that is read up to this place
pub no_document_at : {E : Type 0} (text : List ℕ) (place : ℕ) (front rest reason : List ℕ) (result : Result (Vec ℕ) E) → place ≤ length text
    → front ≡ take place text → rest ≡ drop place text
    → IfOk result (λ words. vec_items words
    ≡ codes "is no TOML document" ++ position_words front ++ codes ": " ++ reason ++ help_words reason rest)
    → IfOk result (λ words. IsNoDocument text (vec_items words))
no_document_at text place front rest reason (Ok words) within same other fault_named = record {
  place = place;
  within = within;
  reason = reason;
  fault_named = fault_named
      ∙ ap₂ (λ (f r : List ℕ). codes "is no TOML document" ++ position_words f ++ codes ": " ++ reason ++ help_words reason r) same other;
}
no_document_at text place front rest reason (Err failed) within same other fault_named = tt
