use Rattle.gw_rules.proofs.Quiet.{allows_as, decide_alike, first_alike}
use Rattle.gw_rules.proofs.laws.quiet.Goals as goal

pub returns : goal.returns
returns c = record { first = first_alike; allows = allows_as; decide = decide_alike }
