use Rattle.gw_codecs.proofs.apdu_lemmas.Headers.{one_apdu}
use Rattle.gw_codecs.proofs.apdu.laws.one_apdu.Goals as goal

pub returns : goal.returns
returns c = one_apdu
