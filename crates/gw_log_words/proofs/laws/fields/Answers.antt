use Rattle.gw_log_words.proofs.LawLemmas.{are_fields, says_allowed, stays_as_before}
use Rattle.gw_log_words.proofs.laws.fields.Goals as goal

pub returns-clause-are : goal.returns-clause-are
returns-clause-are c = are_fields

pub returns-clause-before : goal.returns-clause-before
returns-clause-before c = stays_as_before

pub returns-clause-audit : goal.returns-clause-audit
returns-clause-audit c = says_allowed
