use Rattle.gw_core_laws.proofs.StationLemmas.{no_delivery_outside, no_forged_claim, no_stranger}
use Rattle.gw_core_laws.proofs.laws.stations.Goals as goal

pub returns-clause-claims : goal.returns-clause-claims
returns-clause-claims c = no_forged_claim c.entry.ensures.claims

pub returns-clause-strangers : goal.returns-clause-strangers
returns-clause-strangers c = no_stranger c.entry.ensures.strangers

pub returns-clause-inside : goal.returns-clause-inside
returns-clause-inside c = no_delivery_outside c.delivery.ensures.inside
