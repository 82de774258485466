-- A test of each of the twelve fields, at one of them and from all of them.
use Rattle.std.proofs.Common.{◌≡◌, ℕ, ◌-◌, ◌<◌, Bool, true, Some, get_or, arith, refl, ap, ◌∙◌}
use Rattle.std.specs.List.{slice_get}
use Rattle.std.proofs.lemmas.List.Sums.{AllPass-from_list_all, list_all-from_AllPass}
use Rattle.gw_rules.specs.declared.field.FieldName.{FieldName}
use Rattle.gw_rules.specs.declared.field.FieldName.TheVariants.{Operation, Port, SourceNetwork, SourceKey, DestinationNetwork, Service, ObjectType, Instance, Property, Priority, Sender, Station}
use Rattle.gw_rules.specs.declared.field.TheConstants.FieldName.{ALL}
use Rattle.gw_rules.specs.Field.{field_number}
use Rattle.gw_rules.specs.declared.fields.Fields.{Fields}
use Rattle.gw_rules.specs.Fields.{value_of, with_value}
use Rattle.gw_rules.specs.Rule.{each_field}

-- a test that each field passes is passed at each field
pub each_field_at : (test : FieldName → Bool) → each_field test ≡ true → (field : FieldName) → test field ≡ true
each_field_at test all field =
    let at : (k : ℕ) → k < 12 → test (get_or ALL k Operation) ≡ true = λ k within. AllPass-from_list_all test ALL all k Operation within in
    elim field as (λ f. test f ≡ true) [
      | Operation ↦ at 0 (omega arith)
      | Port ↦ at 1 (omega arith)
      | SourceNetwork ↦ at 2 (omega arith)
      | SourceKey ↦ at 3 (omega arith)
      | DestinationNetwork ↦ at 4 (omega arith)
      | Service ↦ at 5 (omega arith)
      | ObjectType ↦ at 6 (omega arith)
      | Instance ↦ at 7 (omega arith)
      | Property ↦ at 8 (omega arith)
      | Priority ↦ at 9 (omega arith)
      | Sender ↦ at 10 (omega arith)
      | Station ↦ at 11 (omega arith)
    ]

-- and the converse
pub each_field_from : (test : FieldName → Bool) → ((field : FieldName) → test field ≡ true) → each_field test ≡ true
each_field_from test passes = list_all-from_AllPass test ALL (λ k d within. passes (get_or ALL k d))

-- each field is at its place in the list of all
pub field_places : (field : FieldName) → slice_get ALL (field_number field - 1) ≡ Some field
field_places field = elim field as (λ f. slice_get ALL (field_number f - 1) ≡ Some f) [ Operation ↦ refl | Port ↦ refl | SourceNetwork ↦ refl | SourceKey ↦ refl | DestinationNetwork ↦ refl | Service ↦ refl | ObjectType ↦ refl | Instance ↦ refl | Property ↦ refl | Priority ↦ refl | Sender ↦ refl | Station ↦ refl ]

-- two have the same value for each field, so they are the same
pub fields_alike : {A : Type 0} → (a b : Fields A) → ((field : FieldName) → value_of field a ≡ value_of field b) → a ≡ b
fields_alike {A = A} a b same =
    let s1 : Fields A = with_value Operation (value_of Operation b) a in
    let s2 : Fields A = with_value Port (value_of Port b) s1 in
    let s3 : Fields A = with_value SourceNetwork (value_of SourceNetwork b) s2 in
    let s4 : Fields A = with_value SourceKey (value_of SourceKey b) s3 in
    let s5 : Fields A = with_value DestinationNetwork (value_of DestinationNetwork b) s4 in
    let s6 : Fields A = with_value Service (value_of Service b) s5 in
    let s7 : Fields A = with_value ObjectType (value_of ObjectType b) s6 in
    let s8 : Fields A = with_value Instance (value_of Instance b) s7 in
    let s9 : Fields A = with_value Property (value_of Property b) s8 in
    let s10 : Fields A = with_value Priority (value_of Priority b) s9 in
    let s11 : Fields A = with_value Sender (value_of Sender b) s10 in
    ap (λ v. with_value Operation v a) (same Operation) ∙ (ap (λ v. with_value Port v s1) (same Port) ∙ (ap (λ v. with_value SourceNetwork v s2) (same SourceNetwork) ∙ (ap (λ v. with_value SourceKey v s3) (same SourceKey) ∙ (ap (λ v. with_value DestinationNetwork v s4) (same DestinationNetwork) ∙ (ap (λ v. with_value Service v s5) (same Service) ∙ (ap (λ v. with_value ObjectType v s6) (same ObjectType) ∙ (ap (λ v. with_value Instance v s7) (same Instance) ∙ (ap (λ v. with_value Property v s8) (same Property) ∙ (ap (λ v. with_value Priority v s9) (same Priority) ∙ (ap (λ v. with_value Sender v s10) (same Sender) ∙ (ap (λ v. with_value Station v s11) (same Station))))))))))))
