use Rattle.std.proofs.Common.{refl}
use Rattle.gw_rules.proofs.BothWays.{back_matches, no_way, way_matches}
use Rattle.gw_rules.proofs.laws.both_ways.Goals as goal

pub returns : goal.returns
returns c = record { way = way_matches; no_way = no_way; back = back_matches; numbers = refl }
