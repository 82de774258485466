use Rattle.gw_core_laws.proofs.KeyLemmas.{no_key_stays_none, short_keys_are_those_of_two, short_rules_decide_as_before, short_rules_hide_as_before, six_octets_keep_their_key}
use Rattle.gw_core_laws.proofs.laws.keys.Goals as goal

pub returns-clause-six : goal.returns-clause-six
returns-clause-six c = six_octets_keep_their_key

pub returns-clause-none : goal.returns-clause-none
returns-clause-none c = no_key_stays_none

pub returns-clause-short : goal.returns-clause-short
returns-clause-short c = short_keys_are_those_of_two

pub returns-clause-decided : goal.returns-clause-decided
returns-clause-decided c = short_rules_decide_as_before

pub returns-clause-hidden : goal.returns-clause-hidden
returns-clause-hidden c = short_rules_hide_as_before
