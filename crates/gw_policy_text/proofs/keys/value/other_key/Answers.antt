use Rattle.gw_policy_text.proofs.keys_lemmas.Macs.{many_octets, six_octets}
use Rattle.gw_policy_text.proofs.keys.value.other_key.Goals as goal

pub returns-then-len-eq6 : goal.returns-then-len-eq6
returns-then-len-eq6 c = six_octets c.args.digits.now c.if-len-eq6.true

pub returns-then-len-gt-MAX_KEYED : goal.returns-then-len-gt-MAX_KEYED
returns-then-len-gt-MAX_KEYED c = many_octets c.args.digits.now c.if-len-gt-MAX_KEYED.true
