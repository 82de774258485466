use Rattle.gw_codecs.proofs.apdu_lemmas.Headers.{apdu_is, short_is, kind_is}
use Rattle.gw_codecs.proofs.apdu.laws.reading.Goals as goal

pub returns-clause-found : goal.returns-clause-found
returns-clause-found c = apdu_is

pub returns-clause-short : goal.returns-clause-short
returns-clause-short c = short_is

pub returns-clause-kind : goal.returns-clause-kind
returns-clause-kind c = kind_is
