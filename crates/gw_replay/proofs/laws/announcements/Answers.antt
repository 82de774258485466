use Rattle.gw_replay.proofs.ReplayLemmas.{announcements_change_nothing, unannounced_are_events}
use Rattle.gw_replay.proofs.laws.announcements.Goals as goal

pub returns-clause-unannounced : goal.returns-clause-unannounced
returns-clause-unannounced c = unannounced_are_events

pub returns-clause-unchanged : goal.returns-clause-unchanged
returns-clause-unchanged c = announcements_change_nothing
