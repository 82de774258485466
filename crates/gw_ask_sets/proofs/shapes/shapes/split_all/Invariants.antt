use Rattle.std.proofs.Common.{◌≡◌, take}
use Rattle.std.specs.List.{flat_map}
use Rattle.gw_ask_sets.specs.shapes.Shapes.{split}
use Rattle.gw_ask_sets.proofs.shapes.shapes.split_all.Given as goal

abbrev pub invariant-loop-side : goal.invariant-loop-side
invariant-loop-side l = l.out.items ≡ flat_map (split l.number) (take l.side-index l.sides)
