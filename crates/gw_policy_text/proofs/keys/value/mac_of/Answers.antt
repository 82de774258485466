use Rattle.gw_policy_text.proofs.keys_lemmas.Macs.{key_held}
use Rattle.gw_policy_text.proofs.keys.value.mac_of.Goals as goal

pub returns-clause-held : goal.returns-clause-held
returns-clause-held c = key_held c.other_key.result _ c.other_key.ensures
