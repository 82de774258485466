use Rattle.gw_codecs.proofs.tags_lemmas.ValueFaults.{values_are_prefix_free, value_found, value_only, one_reading}
use Rattle.gw_codecs.proofs.tags_lemmas.Written.{value_encoding_encodes, value_encoding_is_shortest, value_within}
use Rattle.gw_codecs.proofs.tags.laws.values.Goals as goal

pub returns-clause-prefix_free : goal.returns-clause-prefix_free
returns-clause-prefix_free c = values_are_prefix_free

pub returns-clause-encodes : goal.returns-clause-encodes
returns-clause-encodes c = value_encoding_encodes

pub returns-clause-shortest : goal.returns-clause-shortest
returns-clause-shortest c = value_encoding_is_shortest

pub returns-clause-exact : goal.returns-clause-exact
returns-clause-exact c = λ octets value rest fits. (λ e. let f = value_found octets value rest fits e in (f.0, value_within octets value rest f.0 f.1), λ both. value_only octets value rest both.1.text both.0)

pub returns-clause-lists : goal.returns-clause-lists
returns-clause-lists c = λ octets values others a b. one_reading a others b
