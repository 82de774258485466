use Rattle.gw_core_laws.proofs.QuietLemmas.{quiet_is_unseen}
use Rattle.gw_core_laws.proofs.WriteLemmas.{announcements_are_unread, writes_are_unread}
use Rattle.gw_core_laws.proofs.BlindLemmas.{asks_carry_their_claim, asks_have_their_origin, writes_are_hidden}
use Rattle.gw_core_laws.proofs.laws.no_leak.Goals as goal

pub returns-clause-hidden : goal.returns-clause-hidden
returns-clause-hidden c = writes_are_hidden

pub returns-clause-unread : goal.returns-clause-unread
returns-clause-unread c = writes_are_unread

pub returns-clause-quiet : goal.returns-clause-quiet
returns-clause-quiet c = quiet_is_unseen

pub returns-clause-claims : goal.returns-clause-claims
returns-clause-claims c = asks_carry_their_claim

pub returns-clause-origins : goal.returns-clause-origins
returns-clause-origins c = asks_have_their_origin

pub returns-clause-announced : goal.returns-clause-announced
returns-clause-announced c = announcements_are_unread
