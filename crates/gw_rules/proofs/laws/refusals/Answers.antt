use Rattle.gw_rules.proofs.Denials.{denied_of-append, refused_asks, refused_by}
use Rattle.gw_rules.proofs.Logged.{all_logged, logged_iff, refused_all}
use Rattle.gw_rules.proofs.laws.refusals.Goals as goal

pub returns : goal.returns
returns c = record { logged = logged_iff; asks = refused_asks; none_quiet = all_logged; all = refused_all; by = refused_by; joined = denied_of-append }
