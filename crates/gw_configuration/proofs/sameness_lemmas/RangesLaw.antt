-- What holds at each place of the list of all fields holds for each field.
use Rattle.std.proofs.Common.{◌≡◌, ap, subst, ℕ, ◌-◌, ◌<◌, Some, get_or, inl, inr, length, true, false}
use Rattle.std.specs.List.{slice_get}
use Rattle.std.specs.Option.{option_map_or}
use Rattle.std.proofs.lemmas.Bool.{both_ways}
use Rattle.std.proofs.lemmas.Option.{get_or_from_slice_get, slice_get_cases}
use Rattle.gw_rules.specs.Field.{field_number}
use Rattle.gw_rules.specs.declared.field.FieldName.{FieldName}
use Rattle.gw_rules.specs.declared.field.TheConstants.FieldName.{ALL}
use Rattle.gw_rules.proofs.EachField.{field_places}

within : (field : FieldName) → field_number field - 1 < length ALL
within field = elim (slice_get_cases ALL (field_number field - 1)).1 [
  | inl found ↦ found.1
  | inr past ↦
      absurd (both_ways (option_map_or (λ f. true) (slice_get ALL (field_number field - 1)) false) (ap (λ o. option_map_or (λ f. true) o false) past.1)
      (ap (λ o. option_map_or (λ f. true) o false) (field_places field)))
]

pub each_place : (P : FieldName → Type 0) → ((k : ℕ) (d : FieldName) → k < 12 → P (get_or ALL k d)) → (field : FieldName) → P field
each_place P at field =
    let place = field_number field - 1 in
    subst P (get_or_from_slice_get ALL place field field (field_places field)) (at place field (within field))
