use Rattle.gw_codecs.proofs.services_lemmas.MultiEncoded.{multi_is}
use Rattle.gw_codecs.proofs.services.laws.multi_encoded.Goals as goal

pub returns : goal.returns
returns c = multi_is
