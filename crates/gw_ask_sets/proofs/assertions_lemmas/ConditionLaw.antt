-- What of a region meets a condition, and the conditions of an assertion.
use Rattle.std.proofs.Common.{◌≡◌, ◌∙◌, sym, ap, refl, ℕ, Bool, true, false, ◌&&◌, ◌||◌, List, [], ◌∷◌, Option, Some, None}
use Rattle.std.specs.Prelude.{not, if◌then◌else◌, is_some}
use Rattle.std.specs.List.{list_any}
use Rattle.std.specs.Option.{option_map_or}
use Rattle.gw_rules.specs.Ask.{Ask}
use Rattle.gw_rules.specs.Fields.{value_of}
use Rattle.gw_rules.specs.Range.{admits, holds}
use Rattle.gw_rules.specs.declared.field.FieldName.{FieldName}
use Rattle.gw_rules.specs.declared.range.Range.{Range}
use Rattle.gw_configuration.specs.Assertion.{may_lack}
use Rattle.gw_ask_sets.specs.assertions.internal.Conditions.{is_met, meeting, meets}
use Rattle.gw_ask_sets.specs.declared.assertions.condition.Condition.{Condition}
use Rattle.gw_ask_sets.specs.declared.regions.values.Values.{Values}
use Rattle.gw_ask_sets.specs.regions.Ranges.{shared}
use Rattle.gw_ask_sets.specs.regions.Regions.{Region, lies}
use Rattle.gw_ask_sets.specs.regions.Values.{has}
use Rattle.gw_ask_sets.proofs.regions_lemmas.RangeLaw.{and_all, shared_law}
use Rattle.gw_ask_sets.proofs.regions_lemmas.RegionLaw.{each_both}
use Rattle.gw_ask_sets.proofs.regions_lemmas.ValueLaw.{not_empty, some_admits}

-- ---- one field

pub meeting_law : (lacking : Bool) (v : Values) (ranges : List Range) (x : Option ℕ)
    → has (meeting lacking v ranges) x ≡ (has v x && (admits ranges x || (lacking && not (is_some x))))
meeting_law lacking v [] x = sym (and_all (has v x))
meeting_law lacking v (r ∷ rs) x =
    ap (λ b. has (if b then v else record { absent = lacking && v.absent; ranges = shared v.ranges (r ∷ rs) }) x) (not_empty r rs)
    ∙ by x ∙ ap (λ b. has v x && (b || (lacking && not (is_some x)))) (sym (some_admits r rs x))
  where
    swapped : (a b : Bool) → (a && b) ≡ (b && (a && true))
    swapped true true = refl
    swapped true false = refl
    swapped false true = refl
    swapped false false = refl

    held : (a b c : Bool) → (a && b) ≡ (a && (b || (c && false)))
    held true true c = refl
    held true false true = refl
    held true false false = refl
    held false b c = refl

    by : (x : Option ℕ) → has (record { absent = lacking && v.absent; ranges = shared v.ranges (r ∷ rs) }) x
        ≡ (has v x && (option_map_or (λ number. list_any (holds number) (r ∷ rs)) x false || (lacking && not (is_some x))))
    by None = swapped lacking v.absent
    by (Some n) = shared_law n v.ranges (r ∷ rs) ∙ held (list_any (holds n) v.ranges) (list_any (holds n) (r ∷ rs)) lacking

-- ---- all fields

-- an ask lies in what of a region meets a condition if it lies there and meets it
pub meeting_lies : (condition : Condition) (region made : Region)
    → ((field : FieldName) → value_of field made
    ≡ meeting (condition.unnamed && may_lack field) (value_of field region) (value_of field condition.ranges))
    → (ask : Ask) → lies made ask ≡ (lies region ask && is_met condition ask)
meeting_lies condition region made is ask =
    each_both (λ field. has (value_of field region) (value_of field ask)) (meets condition ask) (λ field. has (value_of field made) (value_of field ask))
    (λ field. ap (λ v. has v (value_of field ask)) (is field)
    ∙ meeting_law (condition.unnamed && may_lack field) (value_of field region) (value_of field condition.ranges) (value_of field ask)
    ∙ ap (λ b. has (value_of field region) (value_of field ask) && (admits (value_of field condition.ranges) (value_of field ask) || b))
    (regroup condition.unnamed (may_lack field) (not (is_some (value_of field ask)))))
  where
    regroup : (a b c : Bool) → ((a && b) && c) ≡ (a && (b && c))
    regroup true b c = refl
    regroup false b c = refl
