use Rattle.gw_policy_text.proofs.keys_lemmas.Written.{no_subnet, some_subnet}
use Rattle.gw_policy_text.proofs.keys.value.subnet_of.Goals as goal

pub returns-in-Some : goal.returns-in-Some
returns-in-Some c = some_subnet c.args.text.now c.in-Some.subnet c.whole_subnet.result c.whole_subnet.ensures.same c.whole_subnet.ensures.whole c.in-Some.ensures.found

pub returns-in-None : goal.returns-in-None
returns-in-None c = no_subnet c.args.text.now c.in-None.ensures.only
