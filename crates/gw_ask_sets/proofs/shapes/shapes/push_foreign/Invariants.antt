use Rattle.std.proofs.Common.{◌≡◌, ◌++◌, drop}
use Rattle.std.specs.List.{flat_map}
use Rattle.gw_ask_sets.specs.shapes.Shapes.{foreign_shapes}
use Rattle.gw_ask_sets.proofs.shapes.shapes.push_foreign.Given as goal

-- what is made and what is left are all shapes
abbrev pub invariant-loop-network : goal.invariant-loop-network
invariant-loop-network l =
    l.out.items ++ flat_map (foreign_shapes l.format l.device l.entrances) (drop l.network-index l.networks)
    ≡ l.fn.out.items ++ flat_map (foreign_shapes l.format l.device l.entrances) l.networks
