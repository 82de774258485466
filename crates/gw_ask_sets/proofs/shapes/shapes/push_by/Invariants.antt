use Rattle.std.proofs.Common.{◌≡◌, ◌++◌, take}
use Rattle.std.specs.List.{flat_map}
use Rattle.gw_ask_sets.specs.shapes.Shapes.{shapes_by}
use Rattle.gw_ask_sets.proofs.shapes.shapes.push_by.Given as goal

abbrev pub invariant-loop-by : goal.invariant-loop-by
invariant-loop-by l =
    l.out.items ≡ l.fn.out.items ++ flat_map (shapes_by l.format l.device l.networks) (take l.by-index l.entrances)
