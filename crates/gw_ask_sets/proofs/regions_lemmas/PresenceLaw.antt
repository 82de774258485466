-- A region whose fields are absent only if an ask of a shape lacks them.
use Rattle.std.proofs.Common.{◌≡◌, ◌∙◌, sym, ap, refl, ℕ, Bool, true, false, ◌&&◌, List, [], ◌∷◌, ◌++◌, Option, Some, None}
use Rattle.std.specs.Prelude.{not}
use Rattle.std.specs.List.Sorted.{IsPermutation}
use Rattle.std.proofs.lemmas.Bool.{and_from, and_parts, both_ways, false_from_ne_true}
use Rattle.gw_rules.specs.Ask.{Ask}
use Rattle.gw_rules.specs.Fields.{value_of, with_value}
use Rattle.gw_rules.specs.declared.field.FieldName.{FieldName}
use Rattle.gw_rules.proofs.EachField.{each_field_at, each_field_from}
use Rattle.gw_ask_sets.specs.regions.Merging.{IsWide, lies_but}
use Rattle.gw_ask_sets.specs.regions.Presence.{AreMeant, IsLacking, IsMeantBy, NoneIsMeant, OrNoneIsMeant, absence, present}
use Rattle.gw_ask_sets.specs.regions.Regions.{Region, lies, lies_in_one}
use Rattle.gw_ask_sets.specs.regions.Values.{has, is_any}
use Rattle.gw_ask_sets.specs.declared.regions.comparison.Found.{Found}
use Rattle.gw_ask_sets.specs.declared.regions.values.Values.{Values}
use Rattle.gw_ask_sets.proofs.regions_lemmas.ComparingLaw.{all_push}
use Rattle.gw_ask_sets.proofs.regions_lemmas.MergingLaw.{all_moved}
use Rattle.gw_ask_sets.proofs.regions_lemmas.RegionLaw.{lies_apart, lies_with}

-- ---- the values of a field

-- all of them, if absence is meant
meant_all : (shapes : List Region) (region : Region) (field : FieldName) (values : Values) → values ≡ value_of field region
    → IsMeantBy shapes region field (value_of field region) → AreMeant shapes region field values
meant_all shapes region field values is meant = record {
  fewer = λ value t. sym (ap (λ v. has v value) is) ∙ t;
  enough = λ ask there in_shape. ap (λ v. has v (value_of field ask)) is ∙ each_field_at (λ f. has (value_of f region) (value_of f ask)) there field;
  meant = λ may some. meant (sym (ap (λ (v : Values). v.absent) is) ∙ may) (sym (ap is_any is) ∙ some);
}

-- they may not be absent, or are just any
pub meant_unsaid : (shapes : List Region) (region : Region) (field : FieldName) (values : Values) → values ≡ value_of field region
    → ((value_of field region).absent && not (is_any (value_of field region))) ≡ false → AreMeant shapes region field values
meant_unsaid shapes region field values is unsaid =
    meant_all shapes region field values is (
    λ may some. absurd (both_ways ((value_of field region).absent && not (is_any (value_of field region))) unsaid
    (and_from (value_of field region).absent (not (is_any (value_of field region))) may (ap not some)))
    )

-- an ask of a shape lies in the region with absence alone
absent_only : (x : Option ℕ) → has absence x ≡ true → x ≡ None
absent_only None t = refl
absent_only (Some n) t = absurd (both_ways false refl t)

lacking : (shapes : List Region) (region : Region) (field : FieldName) (ask : Ask) → (value_of field region).absent ≡ true
    → (lies (with_value field absence region) ask && lies_in_one shapes ask) ≡ true → IsLacking shapes region field
lacking shapes region field ask may is =
    let parts = and_parts (lies (with_value field absence region) ask) (lies_in_one shapes ask) is in
    let both = and_parts (has absence (value_of field ask)) (lies_but field region ask) (sym (lies_with field region absence ask) ∙ parts.0) in
    let lacks = absent_only (value_of field ask) both.0 in
    record {
      ask = ask;
      there = lies_apart field region ask
          ∙ and_from (has (value_of field region) (value_of field ask)) (lies_but field region ask)
          (ap (has (value_of field region)) lacks ∙ may) both.1;
      in_shape = parts.1;
      lacks = lacks;
    }

pub meant_lacking : (shapes : List Region) (region : Region) (field : FieldName) (values : Values) (ask : Ask) → values ≡ value_of field region
    → (lies (with_value field absence region) ask && lies_in_one shapes ask) ≡ true → AreMeant shapes region field values
meant_lacking shapes region field values ask is there =
    meant_all shapes region field values is (λ may some. lacking shapes region field ask may there)

-- no ask of a shape does
pub meant_present : (shapes : List Region) (region : Region) (field : FieldName) (values : Values) → values ≡ present (value_of field region)
    → ((ask : Ask) → (lies (with_value field absence region) ask && lies_in_one shapes ask) ≡ false) → AreMeant shapes region field values
meant_present shapes region field values is none = record {
  fewer = λ value t. fewer value (sym (ap (λ v. has v value) is) ∙ t);
  enough = λ ask there in_shape. ap (λ v. has v (value_of field ask)) is ∙ enough ask there in_shape;
  meant = λ may. absurd (both_ways false refl (sym (ap (λ (v : Values). v.absent) is) ∙ may));
}
  where
    fewer : (value : Option ℕ) → has (present (value_of field region)) value ≡ true → has (value_of field region) value ≡ true
    fewer None t = absurd (both_ways false refl t)
    fewer (Some n) t = t

    enough : (ask : Ask) → lies region ask ≡ true → lies_in_one shapes ask ≡ true → has (present (value_of field region)) (value_of field ask) ≡ true
    enough ask there in_shape =
        let both = and_parts (has (value_of field region) (value_of field ask)) (lies_but field region ask) (sym (lies_apart field region ask) ∙ there) in
        by (value_of field ask) refl both.0 both.1
      where
        by : (x : Option ℕ) → value_of field ask ≡ x → has (value_of field region) x ≡ true → lies_but field region ask ≡ true → has (present (value_of field region)) x ≡ true
        by None e here but =
            absurd (both_ways (lies (with_value field absence region) ask && lies_in_one shapes ask) (none ask)
            (and_from (lies (with_value field absence region) ask) (lies_in_one shapes ask)
            (lies_with field region absence ask ∙ and_from (has absence (value_of field ask)) (lies_but field region ask) (ap (has absence) e) but) in_shape))
        by (Some n) e here but = here

-- ---- a region

pub required_wide : (shapes : List Region) (region made : Region) → ((field : FieldName) → AreMeant shapes region field (value_of field made)) → IsWide shapes region made
required_wide shapes region made each ask in_shape = by (lies region ask) refl
  where
    by : (b : Bool) → lies region ask ≡ b → lies made ask ≡ lies region ask
    by true e =
        each_field_from (λ f. has (value_of f made) (value_of f ask)) (λ f. (each f).enough ask e in_shape) ∙ sym e
    by false e =
        false_from_ne_true (lies made ask) (
        λ t. both_ways (lies region ask) e
        (each_field_from (λ f. has (value_of f region) (value_of f ask))
        (λ f. (each f).fewer (value_of f ask) (each_field_at (λ g. has (value_of g made) (value_of g ask)) t f)))
        ) ∙ sym e

pub required_meant : (shapes : List Region) (region made : Region) → ((field : FieldName) → AreMeant shapes region field (value_of field made)) → NoneIsMeant shapes made
required_meant shapes region made each field may not_any =
    let was = (each field).meant may not_any in
    record {
      ask = was.ask;
      there = required_wide shapes region made each was.ask was.in_shape ∙ was.there;
      in_shape = was.in_shape;
      lacks = was.lacks;
    }

-- ---- all regions

pub meant_push : (shapes : List Region) (done : List Found) (f : Found) → OrNoneIsMeant shapes done → NoneIsMeant shapes f.region → OrNoneIsMeant shapes (done ++ f ∷ [])
meant_push shapes done f before now = all_push (λ g. NoneIsMeant shapes g.region) done f before now

pub meant_moved : (shapes : List Region) (xs ys : List Found) → IsPermutation xs ys → OrNoneIsMeant shapes xs → OrNoneIsMeant shapes ys
meant_moved shapes xs ys moved all = all_moved (λ f. NoneIsMeant shapes f.region) xs ys moved all
