use Rattle.gw_rules.proofs.Denials.{decide_allow_iff, decide_deny_iff}
use Rattle.gw_rules.proofs.First.{allows_iff}
use Rattle.gw_rules.proofs.laws.decision.Goals as goal

pub returns : goal.returns
returns c = record { allows = allows_iff; allow = decide_allow_iff; deny = decide_deny_iff }
