use Rattle.gw_policy_text.proofs.keys_lemmas.Written.{no_address, some_address}
use Rattle.gw_policy_text.proofs.keys.value.address_of.Goals as goal

pub returns-in-Ok : goal.returns-in-Ok
returns-in-Ok c = some_address c.args.text.now c.in-Ok.address c.whole_address.result c.whole_address.ensures.same c.whole_address.ensures.whole c.in-Ok.ensures.found

pub returns-in-Err : goal.returns-in-Err
returns-in-Err c = no_address c.args.text.now c.in-Err.field-0 c.in-Err.ensures.only
