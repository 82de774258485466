use Rattle.toml.specs.Data.{as_array}
use Rattle.toml.specs.View.{view}
use Rattle.gw_policy_text.proofs.keys_lemmas.Values.{list_given}
use Rattle.gw_policy_text.proofs.keys.value.list.Goals as goal

pub returns-in-Some : goal.returns-in-Some
returns-in-Some c = list_given (as_array (view c.args.value.now)) c.in-Some.items.now.items c.as_slice.result.now c.in-Some.ensures c.as_slice.ensures.value
