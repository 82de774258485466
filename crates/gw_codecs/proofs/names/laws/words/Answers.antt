use Rattle.gw_codecs.proofs.names_lemmas.Whole.{object_types_words, properties_words, services_words}
use Rattle.gw_codecs.proofs.names.laws.words.Goals as goal

pub returns-clause-object_types : goal.returns-clause-object_types
returns-clause-object_types c = object_types_words

pub returns-clause-properties : goal.returns-clause-properties
returns-clause-properties c = properties_words

pub returns-clause-services : goal.returns-clause-services
returns-clause-services c = services_words
