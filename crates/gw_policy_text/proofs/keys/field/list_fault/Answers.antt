use Rattle.std.proofs.Common.{length, map, refl, ◌∙◌}
use Rattle.toml.specs.View.{view}
use Rattle.gw_policy_text.specs.keys.Field.{item_fault}
use Rattle.gw_policy_text.proofs.keys_lemmas.Values.{list_fault_view}
use Rattle.gw_policy_text.proofs.keys.field.list_fault.Goals as goal

pub returns : goal.returns
returns c =
    c.fault_by.ensures ∙ list_fault_view (item_fault (map view c.args.sets.now) c.args.shape) c.args.least c.args.most c.args.items.now c.have_kind-kinds.result c.have_range-ranges.result (length c.args.items.now) c.have_kind-kinds.ensures c.have_range-ranges.ensures refl
