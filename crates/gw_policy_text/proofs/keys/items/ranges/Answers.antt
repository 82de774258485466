use Rattle.std.proofs.Common.{rules, ◌≡◌, ◌≢◌, Err, map}
use Rattle.toml.specs.View.{view}
use Rattle.gw_configuration.specs.declared.fault.ConfigFault.TheVariants.{Memory}
use Rattle.gw_policy_text.specs.keys.Items.{ranges_in}
use Rattle.gw_policy_text.proofs.keys_lemmas.Each.{items_go_on, items_stop}
use Rattle.gw_policy_text.proofs.keys.items.ranges.Goals as goal

pub returns-in_err-add_item-clause-ranges : goal.returns-in_err-add_item-clause-ranges
returns-in_err-add_item-clause-ranges c =
    let fault = c.in_err-add_item.field-0.0 in
    let stopped : fault ≢ Memory → ranges_in (map view c.args.sets.now) c.args.of (map view c.args.items.now) ≡ Err fault =
    items_stop (map view c.args.sets.now) c.args.of c.args.items.now c.loop-item.item-index c.loop-item.all _ fault c.loop-item-test.true c.item-item.is c.in_err-add_item.ensures.ranges c.loop-item.invariant.read in
    let is : c.from_residual.result ≡ Err fault = search rules in
    rw is stopped

pub loop-item-preserved : goal.loop-item-preserved
loop-item-preserved c =
    record {
      read = items_go_on (map view c.args.sets.now) c.args.of c.args.items.now c.loop-item.item-index c.loop-item.all c.add_item.new.all _ c.loop-item-test.true c.item-item.is c.in_ok-add_item.ensures.ranges c.loop-item.invariant.read;
      within = c.in_ok-add_item.ensures.within c.loop-item.invariant.within;
    }
