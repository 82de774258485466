use Rattle.gw_log_words.proofs.OnceLemmas.{each, once, words_alone}
use Rattle.gw_log_words.proofs.laws.translating.Goals as goal

pub returns-clause-once : goal.returns-clause-once
returns-clause-once c = once

pub returns-clause-each : goal.returns-clause-each
returns-clause-each c = each

pub returns-clause-words : goal.returns-clause-words
returns-clause-words c = words_alone
