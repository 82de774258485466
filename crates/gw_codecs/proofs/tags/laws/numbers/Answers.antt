use Rattle.gw_codecs.proofs.tags_lemmas.Numbers.{unsigned_again, signed_again}
use Rattle.gw_codecs.proofs.tags.laws.numbers.Goals as goal

pub returns-clause-unsigned : goal.returns-clause-unsigned
returns-clause-unsigned c = unsigned_again

pub returns-clause-signed : goal.returns-clause-signed
returns-clause-signed c = signed_again
