-- What is gathered in a loop: one piece more at each element.
use Rattle.std.proofs.Common.{◌≡◌, ◌∙◌, ◌++◌, ◌+◌, ◌<◌, ◌∷◌, [], inl, inr, Some, ℕ, List, add-one, ap, arith, subst, sym, get_or, length, take}
use Rattle.std.proofs.lemmas.Bool.{cases_lt}
use Rattle.std.proofs.lemmas.List.{flat_map_more, get_or_append_left, get_or_push, length_push, take_more}
use Rattle.std.specs.List.{flat_map}
use Rattle.gw_rules.specs.declared.field.FieldName.{FieldName}
use Rattle.gw_rules.specs.declared.rule.Rule.{Rule}
use Rattle.gw_rule_index.specs.declared.row.Row.{Row}
use Rattle.gw_rule_index.specs.internal.Field.{HasRows}
use Rattle.gw_rule_index.specs.internal.Row.{Marks, admits_in}

-- after a front, the pieces of `i` elements, then those of the next one, are those of `i + 1` elements
pub gathered : {X A : Type 0} (f : X → List A) (front now new : List A) (xs : List X) (i : ℕ) (d : X) → i < length xs
    → now ≡ front ++ flat_map f (take i xs) → new ≡ now ++ f (get_or xs i d) → new ≡ front ++ flat_map f (take (i + 1) xs)
gathered {A = A} f front now new xs i d lt was is =
    is ∙ ap (λ (t : List A). t ++ f (get_or xs i d)) was
    ∙ flat_map_more f front (take i xs) (get_or xs i d)
    ∙ ap (λ ys. front ++ flat_map f ys) (sym (take_more xs i d lt))

-- one row more, for the next number
pub row_more : (rules : List Rule) (field : FieldName) (numbers : List ℕ) (rows more : List Row) (row : Row) (i : ℕ) → more ≡ rows ++ row ∷ [] → length rows ≡ i + 1
    → HasRows rules field numbers rows → Marks row.words (admits_in field (Some (get_or numbers i 0))) rules → HasRows rules field numbers more
row_more rules field numbers rows more row i is long has marks place d within =
    elim (cases_lt place (length rows)) [
      | inl below ↦ subst (λ row. Marks row.words (admits_in field (Some (get_or (0 ∷ numbers) place 0))) rules) (sym (ap (λ rows. get_or rows place d) is ∙ get_or_append_left rows (row ∷ []) d place below)) (has place d below)
      | inr past ↦
          let last : place ≡ length rows = omega (arith, ap length is, length_push rows row) in
          let here : get_or more place d ≡ row = ap (λ rows. get_or rows place d) is ∙ get_or_push rows row d place (sym last) in
          let number : get_or (0 ∷ numbers) place 0 ≡ get_or numbers i 0 = ap (λ n. get_or (0 ∷ numbers) n 0) (last ∙ long ∙ add-one i) in
          subst (λ row. Marks row.words (admits_in field (Some (get_or (0 ∷ numbers) place 0))) rules) (sym here)
          (subst (λ n. Marks row.words (admits_in field (Some n)) rules) (sym number) marks)
    ]
