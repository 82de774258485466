use Rattle.gw_policy_text.proofs.keys_lemmas.Named.{named_same}
use Rattle.gw_policy_text.proofs.keys.value.operation_named.Goals as goal

pub returns : goal.returns
returns c = named_same c.args.text.now c.from_name.result c.from_name.ensures
