use Rattle.gw_codecs.specs.names.Tables.{object_types, properties, services}
use Rattle.gw_codecs.proofs.names_lemmas.Rows.{one_to_one}
use Rattle.gw_codecs.proofs.names_lemmas.Whole.{object_types_named, object_types_numbered, properties_named, properties_numbered, services_named, services_numbered}
use Rattle.gw_codecs.proofs.names.laws.one_to_one.Goals as goal

pub returns-clause-object_types : goal.returns-clause-object_types
returns-clause-object_types c = one_to_one object_types object_types_named object_types_numbered

pub returns-clause-properties : goal.returns-clause-properties
returns-clause-properties c = one_to_one properties properties_named properties_numbered

pub returns-clause-services : goal.returns-clause-services
returns-clause-services c = one_to_one services services_named services_numbered
