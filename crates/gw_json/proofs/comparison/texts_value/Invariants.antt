use Rattle.std.proofs.Common.{◌≡◌, map, take}
use Rattle.json.specs.Json.{string}
use Rattle.gw_json.specs.internal.View.{values_view}
use Rattle.gw_json.proofs.comparison.texts_value.Given as goal

abbrev pub invariant-loop-text : goal.invariant-loop-text
invariant-loop-text l = values_view l.values.items ≡ map (λ text. string text.now) (take l.text-index l.fn.texts)
