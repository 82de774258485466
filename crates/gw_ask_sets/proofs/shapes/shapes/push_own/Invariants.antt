use Rattle.std.proofs.Common.{◌≡◌, ◌++◌, ◌+◌, drop}
use Rattle.gw_ask_sets.specs.shapes.Shapes.{own_shapes}
use Rattle.gw_ask_sets.proofs.shapes.shapes.push_own.Given as goal

-- what is made and what is left are all shapes
abbrev pub invariant-loop-place : goal.invariant-loop-place
invariant-loop-place l =
    l.out.items ++ own_shapes l.format l.device (1 + l.place) (drop l.place l.ports)
    ≡ l.fn.out.items ++ own_shapes l.format l.device 1 l.ports
