use Rattle.gw_core_laws.proofs.BlindLemmas.{writes_go_hidden}
use Rattle.gw_core_laws.proofs.FormatLemmas.{format_one_goes_on, format_stays_on, format_two_goes_on}
use Rattle.gw_core_laws.proofs.FormatThreeLemmas.{format_three_goes_on}
use Rattle.gw_core_laws.proofs.LogLemmas.{denials_go_on, log_goes_on, ticks_go_on}
use Rattle.gw_core_laws.proofs.PlainLemmas.{plain_goes_on}
use Rattle.gw_core_laws.proofs.QuietLemmas.{quiet_goes_unseen}
use Rattle.gw_core_laws.proofs.WriteLemmas.{announcements_go_unread, writes_go_unread}
use Rattle.gw_core_laws.proofs.laws.onward.Goals as goal

pub returns : goal.returns
returns c = record {
  ticks = ticks_go_on;
  denials = denials_go_on;
  log = log_goes_on;
  first = format_one_goes_on;
  second = format_two_goes_on;
  third = format_three_goes_on;
  stays = format_stays_on;
  plain = plain_goes_on;
  hidden = writes_go_hidden;
  unread = writes_go_unread;
  quiet = quiet_goes_unseen;
  announced = announcements_go_unread;
}
