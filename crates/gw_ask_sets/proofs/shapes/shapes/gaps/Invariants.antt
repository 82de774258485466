use Rattle.std.proofs.Common.{◌≡◌, drop}
use Rattle.gw_ask_sets.specs.shapes.Shapes.{gaps, gaps_between}
use Rattle.gw_ask_sets.proofs.shapes.shapes.gaps.Given as goal

-- what is left of the ports makes of the sides all gaps
abbrev pub invariant-loop-port : goal.invariant-loop-port
invariant-loop-port l = gaps_between l.sides.items (drop l.port-index l.ports) ≡ gaps l.device l.ports
