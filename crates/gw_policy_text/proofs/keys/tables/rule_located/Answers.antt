use Rattle.std.proofs.Common.{◌≡◌, ◌∙◌, ◌⊎◌, List, ap, inl, inr, map, refl, take, codes}
use Rattle.toml.specs.Data.{Members}
use Rattle.toml.specs.View.{table_view, view}
use Rattle.gw_configuration.specs.declared.located.Place.TheVariants as places
use Rattle.gw_rules.specs.declared.format.Format.{Format}
use Rattle.gw_rules.specs.declared.format.Format.TheVariants.{One, Two, Three}
use Rattle.gw_policy_text.specs.keys.Field.{Field, located_beside}
use Rattle.gw_policy_text.specs.keys.Tables.{common_rule_fields, every_rule_field, is_both_ways, is_true_at, naming_by, rule_fields}
use Rattle.gw_policy_text.proofs.keys.tables.rule_located.Goals as goal

common : (format : Format) (table : Members) → (format ≡ One) ⊎ (format ≡ Two) → common_rule_fields format ≡ rule_fields format table
common One table is = refl
common Two table is = refl
common Three table (inl e) = absurd cc
common Three table (inr e) = absurd cc

long : (format : Format) (table : Members) → format ≡ Three → every_rule_field (naming_by format (is_both_ways format table)) (is_true_at (codes "allow") table) ≡ rule_fields format table
long One table e = absurd cc
long Two table e = absurd cc
long Three table e = refl

pub returns-in-Three : goal.returns-in-Three
returns-in-Three c =
    let located = located_beside (map view c.args.sets.now) (places.Rule c.args.rule) in
    let table = table_view c.args.table.now in
    c.located_beside.ensures
    ∙ ap (λ (fields : List Field). located fields table)
    (c.rule_fields-fields.ensures
    ∙ ap (λ naming. every_rule_field naming c.is_true_at.result) (c.naming_by-naming.ensures ∙ ap (naming_by c.args.format) c.is_both_ways.ensures)
    ∙ ap (every_rule_field (naming_by c.args.format (is_both_ways c.args.format table))) c.is_true_at.ensures
    ∙ long c.args.format table c.in-Three.is)

pub returns-in-One : goal.returns-in-One
returns-in-One c =
    let located = located_beside (map view c.args.sets.now) (places.Rule c.args.rule) in
    let table = table_view c.args.table.now in
    c.located_beside-in-One.ensures
    ∙ ap (λ (fields : List Field). located (take 12 fields) table) c.rule_fields-fields-in-One.ensures
    ∙ ap (λ (fields : List Field). located fields table) (common c.args.format table c.in-One.is)
