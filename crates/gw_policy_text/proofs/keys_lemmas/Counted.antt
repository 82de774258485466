-- Ranges are counted as they are put in.
use Rattle.std.proofs.Common.{◌≡◌, ◌≤◌, ℕ, suc, ◌++◌, Bool, true, false, cond, List, [], ◌∷◌, length, Option, Some, None, Ok, Err, refl, sym, ap, ◌∙◌, arith, nat_lt}
use Rattle.std.specs.List.{list_any}
use Rattle.std.specs.Option.{option_map_or}
use Rattle.std.specs.Result.{result_err}
use Rattle.std.proofs.lemmas.Bool.{ltb-false}
use Rattle.std.proofs.lemmas.List.{length-append}
use Rattle.std.proofs.lemmas.List.Sums.{sum_by-cons}
use Rattle.toml.specs.Data.{Data}
use Rattle.gw_addr.specs.Reading.{◌>>=◌}
use Rattle.gw_addr.proofs.Reading.{bind_ok}
use Rattle.gw_rules.specs.declared.range.Range.{Range}
use Rattle.gw_configuration.specs.declared.fault.ConfigFault.{ConfigFault}
use Rattle.gw_configuration.specs.declared.fault.ConfigFault.TheVariants.{Kind}
use Rattle.gw_configuration.specs.declared.shape.Scalar.{Scalar}
use Rattle.gw_configuration.specs.Duplicates.{or_else}
use Rattle.gw_configuration.specs.Located.{Read}
use Rattle.gw_policy_text.specs.keys.Field.{count_fault, has_too_many, items_fault}
use Rattle.gw_policy_text.specs.keys.Items.{added_to, count_in, count_of, each, items_in, items_named, items_or, ranges_in, set_name_in, set_ranges, span_in, spans_in}
use Rattle.gw_policy_text.specs.keys.Range.{is_kind}

fine : List Range → Read (List Range)
fine ranges = Ok ranges

length_is : (n : ℕ) (xs ys : List Range) → length xs ≡ n → fine xs ≡ fine ys → length ys ≡ n
unfolding fine
length_is n xs ys e h = let same : xs ≡ ys = cc in ap length (sym same) ∙ e

each_counted : (read : Data → Read Range) (items : List Data) (ranges : List Range) → each read items ≡ Ok ranges → length ranges ≡ length items
each_counted read [] ranges e = let same : [] ≡ ranges = cc in ap length (sym same)
each_counted read (item ∷ later) ranges e =
    let first = bind_ok (read item) (λ x. each read later >>= λ others. Ok (x ∷ others)) ranges e in
    let second = bind_ok (each read later) (λ others. Ok (first.0 ∷ others)) ranges first.2 in
    let same : first.0 ∷ second.0 ≡ ranges = cc in
    ap length (sym same) ∙ ap suc (each_counted read later second.0 second.1)

spans_counted : (scalar : Scalar) (items : List Data) (ranges : List Range) → spans_in scalar items ≡ Ok ranges → length ranges ≡ length items
spans_counted scalar items ranges e = on (list_any (λ item. is_kind (result_err (span_in scalar item))) items) e
  where
    on : (b : Bool) → cond b (Err Kind) (each (span_in scalar) items) ≡ Ok ranges → length ranges ≡ length items
    on true h = absurd cc
    on false h = each_counted (span_in scalar) items ranges h

item_counted : (sets : List Data) (scalar : Scalar) (item : Data) (ranges : List Range) → items_in sets scalar item ≡ Ok ranges → length ranges ≡ count_of sets item
item_counted sets scalar item ranges e = on (set_name_in item) e
  where
    named : (o : Option (List Data)) → set_ranges scalar o ≡ Ok ranges → length ranges ≡ option_map_or length o 0
    named None h = absurd cc
    named (Some items) h = spans_counted scalar items ranges h

    on : (o : Option (List ℕ)) → items_or sets scalar item o ≡ Ok ranges → length ranges ≡ option_map_or (λ name. option_map_or length (items_named name sets) 0) o 1
    on None h =
        let one = bind_ok (span_in scalar item) (λ range. Ok (range ∷ [])) ranges h in
        let same : one.0 ∷ [] ≡ ranges = cc in
        ap length (sym same)
    on (Some name) h = named (items_named name sets) h

pub are_counted : (sets : List Data) (scalar : Scalar) (items : List Data) (ranges : List Range) → ranges_in sets scalar items ≡ Ok ranges → length ranges ≡ count_in sets items
are_counted sets scalar [] ranges e = let same : [] ≡ ranges = cc in ap length (sym same)
are_counted sets scalar (item ∷ later) ranges e =
    let first = bind_ok (items_in sets scalar item) (λ front. added_to front (ranges_in sets scalar later)) ranges e in
    let second = bind_ok (ranges_in sets scalar later) (λ others. Ok (first.0 ++ others)) ranges first.2 in
    let same : first.0 ++ second.0 ≡ ranges = cc in
    let here = item_counted sets scalar item first.0 first.1 in
    let rest = are_counted sets scalar later second.0 second.1 in
    ap length (sym same) ∙ length-append first.0 second.0 ∙ rw (here, rest) refl ∙ sym (sum_by-cons (count_of sets) item later)

none_behind : (a b : Option ConfigFault) → or_else a b ≡ None → b ≡ None
none_behind None b e = e
none_behind (Some x) b e = absurd cc

few_from : (count : ℕ) → count_fault (nat_lt 256 count) ≡ None → count ≤ 256
few_from count e = on (nat_lt 256 count) refl e
  where
    on : (b : Bool) → nat_lt 256 count ≡ b → count_fault b ≡ None → count ≤ 256
    on true t h = absurd cc
    on false t h = let few = ltb-false 256 count t in omega arith

pub are_few : (sets : List Data) (scalar : Scalar) (items : List Data) (ranges : List Range) → items_fault sets scalar items ≡ None → ranges_in sets scalar items ≡ Ok ranges → length ranges ≤ 256
are_few sets scalar items ranges none e =
    let few = few_from (count_in sets items) (none_behind _ (count_fault (has_too_many sets items)) none) in
    let counted = are_counted sets scalar items ranges e in
    omega arith
