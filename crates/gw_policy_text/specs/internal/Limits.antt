-- The limits within which the ranges of rules and assertions are read.
use Rattle.std.specs.Prelude.{ℕ, ◌++◌, Bool, ◌&&◌, ◌||◌, not, nat_le, List, length, codes}
use Rattle.std.specs.List.{list_all}
use Rattle.gw_rules.specs.declared.field.FieldName.{FieldName}
use Rattle.gw_rules.specs.declared.fields.Fields.{Fields}
use Rattle.gw_rules.specs.declared.format.Format.{Format}
use Rattle.gw_rules.specs.declared.range.Range.{Range}
use Rattle.gw_rules.specs.declared.rule.Rule.{Rule}
use Rattle.gw_rules.specs.Bounds.{is_within}
use Rattle.gw_rules.specs.Fields.{value_of}
use Rattle.gw_rules.specs.Format.{names_stations}
use Rattle.gw_rules.specs.Name.{is_name}
use Rattle.gw_rules.specs.Rule.{each_field}
use Rattle.gw_configuration.specs.declared.shape.Naming.{Naming}
use Rattle.gw_policy_text.specs.keys.Tables.{limits_for}

-- ranges for a field: at most 256, and each within its limits
abbrev pub is_limited : Naming → FieldName → List Range → Bool
is_limited naming field ranges =
    list_all (is_within (limits_for naming field)) ranges && nat_le (length ranges) 256

-- those of each field
abbrev pub are_limited : Naming → Fields (List Range) → Bool
are_limited naming ranges = each_field (λ field. is_limited naming field (value_of field ranges))

-- what a rule that goes both ways has: names for those that go with it, and networks to route to
abbrev pub is_joined : Format → Bool → Rule → Bool
is_joined format both rule =
    not both
    || ((is_name (rule.name ++ codes "-way") && is_name (rule.name ++ codes "-back"))
    && (names_stations format
    && list_all (is_within (record { low = 1; high = 65534 })) rule.ranges.destination_network))
