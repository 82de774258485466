use Rattle.gw_notices.proofs.metrics_lemmas.Lines.{families_are_once, lines_have_no_feed, samples_are_under_their_family, text_is_lines}
use Rattle.gw_notices.proofs.metrics.laws.lines.Goals as goal

pub returns-clause-lines : goal.returns-clause-lines
returns-clause-lines c = text_is_lines

pub returns-clause-feeds : goal.returns-clause-feeds
returns-clause-feeds c = lines_have_no_feed

pub returns-clause-under : goal.returns-clause-under
returns-clause-under c = samples_are_under_their_family

pub returns-clause-once : goal.returns-clause-once
returns-clause-once c = families_are_once
