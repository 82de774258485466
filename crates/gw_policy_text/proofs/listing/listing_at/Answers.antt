use Rattle.std.proofs.Common.{◌≡◌, ◌∙◌, None, ap, map, sym}
use Rattle.std.specs.Option.{option_map}
use Rattle.toml.specs.View.{view}
use Rattle.gw_configuration.specs.Located.{located_view}
use Rattle.gw_policy_text.specs.Policy.{crowd}
use Rattle.gw_policy_text.specs.internal.Listing.{listing_view}
use Rattle.gw_policy_text.proofs.Listed.{named}
use Rattle.gw_policy_text.proofs.Steps.{goes_on_listed}
use Rattle.gw_policy_text.proofs.listing.listing_at.Goals as goal

pub add-requires : goal.add-requires
add-requires c = named c.args.format c.in_ok-rule.field-0 c.in_ok-rule.ensures.listable

pub loop-table-preserved : goal.loop-table-preserved
loop-table-preserved c =
    let few : crowd c.args.format c.loop-table.table (listing_view c.add.new.self).rules ≡ None =
    ap (crowd c.args.format c.loop-table.table) (sym c.deref.ensures.value) ∙ sym c.crowd.ensures ∙ ap (option_map located_view) c.in_default.is in
    goes_on_listed c.args.format (map view c.args.sets.now) c.args.values.now c.loop-table.table (listing_view c.loop-table.all) (listing_view c.add.new.self) _ c.in_ok-rule.field-0
    c.loop-table-test.true c.index-values-table.is c.in_ok-rule.ensures.rule c.in_ok-rule.ensures.listable c.in_ok-add.ensures.added few c.loop-table.invariant
