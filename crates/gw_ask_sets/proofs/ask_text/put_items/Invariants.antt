use Rattle.std.proofs.Common.{◌≡◌, ◌++◌, take}
use Rattle.std.specs.List.{flat_map}
use Rattle.gw_ask_sets.specs.AskText.{item_text}
use Rattle.gw_ask_sets.proofs.ask_text.put_items.Given as goal

abbrev pub invariant-loop-field : goal.invariant-loop-field
invariant-loop-field l = l.out.items ≡ l.fn.out.items ++ flat_map (item_text l.ask) (take l.field-index l.fields)
