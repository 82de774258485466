-- A table in which each row is found by its number and by its name.
use Rattle.std.proofs.Common.{◌≡◌, ◌≢◌, ℕ, ◌==◌, nat_eq, Bool, true, false, List, Option, Some, None, option_map, refl, sym, ap, subst}
use Rattle.std.specs.List.{Contains, find, list_all}
use Rattle.std.specs.Option.{option_map_or}
use Rattle.std.specs.Cmp.Lexicographic.{other_text, pointwise, same_text}
use Rattle.std.proofs.lemmas.Bool.{eqb-true}
use Rattle.std.proofs.lemmas.List.Elements.{All-contains, All-weaker}
use Rattle.std.proofs.lemmas.List.Sums.{AllPass-from_list_all}
use Rattle.gw_codecs.specs.names.Names.{name_in, number_in}
use Rattle.gw_codecs.specs.names.Laws.{IsOneToOne, KnowsNoOther, NamesRows}
use Rattle.gw_codecs.proofs.names_lemmas.Finding.{found_contained, found_passes, none_found, none_passes}

-- whether a row is found by its number
abbrev pub is_named : List (ℕ × List ℕ) → ℕ × List ℕ → Bool
is_named table row = option_map_or (λ name. pointwise nat_eq name row.1) (name_in table row.0) false

-- and by its name
abbrev pub is_numbered : List (ℕ × List ℕ) → ℕ × List ℕ → Bool
is_numbered table row = option_map_or (λ number. number == row.0) (number_in table row.1) false

some_name : (found : Option (List ℕ)) (name : List ℕ) → option_map_or (λ n. pointwise nat_eq n name) found false ≡ true → found ≡ Some name
some_name None name e = absurd cc
some_name (Some n) name e = ap Some (same_text n name (sym e))

some_number : (found : Option ℕ) (number : ℕ) → option_map_or (λ n. n == number) found false ≡ true → found ≡ Some number
some_number None number e = absurd cc
some_number (Some n) number e = ap Some (eqb-true n number e)

-- the row that something was taken of
row_of : {B : Type 0} (pick : ℕ × List ℕ → B) (found : Option (ℕ × List ℕ)) (b : B) → option_map pick found ≡ Some b → (row : ℕ × List ℕ) × (found ≡ Some row) × (pick row ≡ b)
row_of pick None b e = absurd cc
row_of pick (Some row) b e = (row, refl, cc)

nothing_of : {B : Type 0} (pick : ℕ × List ℕ → B) (found : Option (ℕ × List ℕ)) → option_map pick found ≡ None → found ≡ None
nothing_of pick None e = refl
nothing_of pick (Some row) e = absurd cc

same_row : (row : ℕ × List ℕ) (number : ℕ) (name : List ℕ) → row.0 ≡ number → row.1 ≡ name → row ≡ (number, name)
same_row (n, text) number name e f = cc

differs : (xs ys : List ℕ) (b : Bool) → pointwise nat_eq xs ys ≡ b → xs ≢ ys → b ≡ false
differs xs ys true e other = absurd (other (same_text xs ys (sym e)))
differs xs ys false e other = refl

module _ (table : List (ℕ × List ℕ)) (named : list_all (is_named table) table ≡ true) (numbered : list_all (is_numbered table) table ≡ true) where
  named_row : (row : ℕ × List ℕ) → Contains table row → name_in table row.0 ≡ Some row.1
  named_row row has =
      some_name (name_in table row.0) row.1 (All-contains (λ r. is_named table r ≡ true) table row (AllPass-from_list_all (is_named table) table named) has)

  numbered_row : (row : ℕ × List ℕ) → Contains table row → number_in table row.1 ≡ Some row.0
  numbered_row row has =
      some_number (number_in table row.1) row.0 (All-contains (λ r. is_numbered table r ≡ true) table row (AllPass-from_list_all (is_numbered table) table numbered) has)

  row_named : (number : ℕ) (name : List ℕ) → name_in table number ≡ Some name → Contains table (number, name)
  row_named number name e =
      let row = row_of (λ r. r.1) (find (λ r. r.0 == number) table) name e in
      let same = eqb-true row.0.0 number (found_passes (λ r. r.0 == number) table row.0 row.1) in
      subst (Contains table) (same_row row.0 number name same row.2) (found_contained (λ r. r.0 == number) table row.0 row.1)

  row_numbered : (number : ℕ) (name : List ℕ) → number_in table name ≡ Some number → Contains table (number, name)
  row_numbered number name e =
      let row = row_of (λ r. r.0) (find (λ r. pointwise nat_eq r.1 name) table) number e in
      let same = same_text row.0.1 name (sym (found_passes (λ r. pointwise nat_eq r.1 name) table row.0 row.1)) in
      subst (Contains table) (same_row row.0 number name row.2 same) (found_contained (λ r. pointwise nat_eq r.1 name) table row.0 row.1)

  pub names_rows : NamesRows table
  names_rows number name = (row_named number name, named_row (number, name))

  pub one_to_one : IsOneToOne table
  one_to_one number name = (
    λ e. named_row (number, name) (row_numbered number name e),
    λ e. numbered_row (number, name) (row_named number name e),
  )

  pub knows_no_other : KnowsNoOther table
  knows_no_other name = (
    λ e. All-weaker (λ r. pointwise nat_eq r.1 name ≡ false) (λ r. r.1 ≢ name) (λ r fails. other_text r.1 name (sym fails)) table
        (none_passes (λ r. pointwise nat_eq r.1 name) table (nothing_of (λ r. r.0) (find (λ r. pointwise nat_eq r.1 name) table) e)),
    λ others. ap (option_map (λ (r : ℕ × List ℕ). r.0)) (none_found (λ r. pointwise nat_eq r.1 name) table
        (All-weaker (λ r. r.1 ≢ name) (λ r. pointwise nat_eq r.1 name ≡ false) (λ r other. differs r.1 name (pointwise nat_eq r.1 name) refl other) table others)),
  )
