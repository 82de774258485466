-- Values and members, one after the other.
use Rattle.std.proofs.Common.{◌≡◌, ◌∙◌, ℕ, List, [], ◌∷◌, ◌++◌, Result, Ok, Err, IfOk, refl, ap, map, Bor}
use Rattle.json.specs.Json.{Json, array, member, string}
use Rattle.gw_json.specs.Document.{items_of, members_of, object_of}
use Rattle.gw_json.specs.internal.View.{members_view, object_view, value_view, values_view}
use Rattle.gw_json.specs.declared.value.Value.{Value}

pub lent : (rows : List (Bor (List ℕ) × Value)) → object_view rows ≡ members_of (members_view rows)
lent [] = refl
lent (row ∷ rows) = ap (member row.0.now (value_view row.1)) (lent rows)

pub members_append : (rows others : List (Bor (List ℕ) × Value)) → members_view (rows ++ others) ≡ members_view rows ++ members_view others
members_append [] others = refl
members_append (row ∷ rows) others = ap (λ (ms : List (List ℕ × Json)). (row.0.now, value_view row.1) ∷ ms) (members_append rows others)

pub values_append : (values others : List Value) → values_view (values ++ others) ≡ values_view values ++ values_view others
values_append [] others = refl
values_append (value ∷ values) others = ap (λ (js : List Json). value_view value ∷ js) (values_append values others)

-- rows of an object that are others
pub rows_shown : {A E : Type 0} (r : Result A E) (f : A → List (List ℕ × Json)) (rows others : List (List ℕ × Json)) → rows ≡ others
    → IfOk r (λ a. f a ≡ rows) → IfOk r (λ a. object_of (f a) ≡ object_of others)
rows_shown (Ok a) f rows others same is = ap object_of (is ∙ same)
rows_shown (Err e) f rows others same is = is

strings : (texts : List (Bor (List ℕ))) → map (λ (text : Bor (List ℕ)). string text.now) texts ≡ map string (map (λ (text : Bor (List ℕ)). text.now) texts)
strings [] = refl
strings (text ∷ texts) = ap (λ (js : List Json). string text.now ∷ js) (strings texts)

-- the strings of some lent texts are those of the texts
pub strings_of : (texts : List (Bor (List ℕ))) (lines : List (List ℕ)) → map (λ (text : Bor (List ℕ)). text.now) texts ≡ lines
    → array (items_of (map (λ (text : Bor (List ℕ)). string text.now) texts)) ≡ array (items_of (map string lines))
strings_of texts lines e = ap (λ (js : List Json). array (items_of js)) (strings texts ∙ ap (map string) e)
