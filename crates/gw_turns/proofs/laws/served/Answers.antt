use Rattle.gw_turns.proofs.ServedLemmas.{stops_are_served, turns_are_served}
use Rattle.gw_turns.proofs.laws.served.Goals as goal

pub returns-clause-turns : goal.returns-clause-turns
returns-clause-turns c = turns_are_served

pub returns-clause-stops : goal.returns-clause-stops
returns-clause-stops c = stops_are_served
