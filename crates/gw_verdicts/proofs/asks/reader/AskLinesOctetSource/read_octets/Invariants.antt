use Rattle.std.proofs.Common.{[]}
use Rattle.gw_verdicts.specs.asks.Left.{rest_in}
use Rattle.gw_verdicts.specs.asks.Position.{GivesFront}
use Rattle.gw_verdicts.proofs.asks.reader.AskLinesOctetSource.read_octets.Given as goal

abbrev pub invariant-loop : goal.invariant-loop
invariant-loop g l =
    let left = g.R.OctetSource.left in
    GivesFront (rest_in left l.fn.self) (rest_in left l.self) []
