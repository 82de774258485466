use Rattle.gw_codecs.proofs.tags_lemmas.Canonical.{canonical_encodes, canonical_again, tags_are_prefix_free}
use Rattle.gw_codecs.proofs.tags_lemmas.Faults.{tag_takes, is_read}
use Rattle.gw_codecs.proofs.tags.laws.tags.Goals as goal

pub returns-clause-prefix_free : goal.returns-clause-prefix_free
returns-clause-prefix_free c = tags_are_prefix_free

pub returns-clause-encodes : goal.returns-clause-encodes
returns-clause-encodes c = canonical_encodes

pub returns-clause-read : goal.returns-clause-read
returns-clause-read c = canonical_again

pub returns-clause-exact : goal.returns-clause-exact
returns-clause-exact c = λ octets tag rest fits. (λ e. tag_takes octets tag rest fits e, λ both. is_read octets tag rest both.1 both.0)
