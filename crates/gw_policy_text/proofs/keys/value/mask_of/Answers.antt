use Rattle.gw_policy_text.proofs.keys_lemmas.Written.{no_mask, some_mask}
use Rattle.gw_policy_text.proofs.keys.value.mask_of.Goals as goal

pub returns-in-Some : goal.returns-in-Some
returns-in-Some c = some_mask c.args.text.now c.in-Some.mask c.whole_mask.result c.whole_mask.ensures.same c.whole_mask.ensures.whole c.in-Some.ensures.found

pub returns-in-None : goal.returns-in-None
returns-in-None c = no_mask c.args.text.now c.in-None.ensures.only
