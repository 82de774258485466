use Rattle.gw_script.specs.internal.Pairs.{IsReadTo}
use Rattle.gw_script.proofs.line.read_each.Given as goal

abbrev pub invariant-loop-i : goal.invariant-loop-i
invariant-loop-i l = IsReadTo l.text l.octets l.i l.largest
