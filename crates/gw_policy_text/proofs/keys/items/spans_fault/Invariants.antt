use Rattle.std.proofs.Common.{◌≡◌, drop, map}
use Rattle.std.specs.Result.{result_err}
use Rattle.toml.specs.View.{view}
use Rattle.gw_policy_text.specs.keys.Items.{each, span_in}
use Rattle.gw_policy_text.proofs.keys.items.spans_fault.Given as goal

abbrev pub invariant-loop-item : goal.invariant-loop-item
invariant-loop-item l =
    result_err (each (span_in l.of) (map view (drop l.item-index l.items))) ≡ result_err (each (span_in l.of) (map view l.items))
