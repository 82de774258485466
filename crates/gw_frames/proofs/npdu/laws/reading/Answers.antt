use Rattle.gw_frames.proofs.npdu_lemmas.Whole.{npdu_is, short_is, version_is, address_is}
use Rattle.gw_frames.proofs.npdu.laws.reading.Goals as goal

pub returns-clause-found : goal.returns-clause-found
returns-clause-found c = npdu_is

pub returns-clause-short : goal.returns-clause-short
returns-clause-short c = short_is

pub returns-clause-version : goal.returns-clause-version
returns-clause-version c = version_is

pub returns-clause-address : goal.returns-clause-address
returns-clause-address c = address_is
