use Rattle.gw_core_laws.proofs.FormatLemmas.{format_one_is_as_before, format_one_runs_as_before, format_stays, format_two_is_as_before, format_two_runs_as_before, format_was_unread}
use Rattle.gw_core_laws.proofs.FormatThreeLemmas.{format_three_is_as_two, format_three_runs_as_two}
use Rattle.gw_core_laws.proofs.PlainLemmas.{first_formats_are_plain}
use Rattle.gw_core_laws.proofs.SenderLemmas.{asks_name_their_sender, asks_name_their_station}
use Rattle.gw_core_laws.proofs.laws.formats.Goals as goal

pub returns-clause-first : goal.returns-clause-first
returns-clause-first c = format_one_is_as_before

pub returns-clause-stays : goal.returns-clause-stays
returns-clause-stays c = format_stays

pub returns-clause-runs : goal.returns-clause-runs
returns-clause-runs c = format_one_runs_as_before

pub returns-clause-unread : goal.returns-clause-unread
returns-clause-unread c = format_was_unread

pub returns-clause-second : goal.returns-clause-second
returns-clause-second c = format_two_is_as_before

pub returns-clause-second_runs : goal.returns-clause-second_runs
returns-clause-second_runs c = format_two_runs_as_before

pub returns-clause-third : goal.returns-clause-third
returns-clause-third c = format_three_is_as_two

pub returns-clause-third_runs : goal.returns-clause-third_runs
returns-clause-third_runs c = format_three_runs_as_two

pub returns-clause-senders : goal.returns-clause-senders
returns-clause-senders c = asks_name_their_sender

pub returns-clause-stations : goal.returns-clause-stations
returns-clause-stations c = asks_name_their_station

pub returns-clause-plain : goal.returns-clause-plain
returns-clause-plain c = first_formats_are_plain
