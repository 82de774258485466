use Rattle.std.proofs.Common.{◌≡◌, take}
use Rattle.gw_json.specs.Unheld.{unheld_items}
use Rattle.gw_json.specs.internal.View.{values_view}
use Rattle.gw_json.proofs.unheld.unheld_values.Given as goal

abbrev pub invariant-loop-place : goal.invariant-loop-place
invariant-loop-place l = values_view l.values.items ≡ unheld_items l.fn.config 0 (take l.place l.fn.judged)
