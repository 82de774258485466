use Rattle.gw_codecs.specs.names.Tables.{object_types, properties, services}
use Rattle.gw_codecs.proofs.names_lemmas.Rows.{knows_no_other}
use Rattle.gw_codecs.proofs.names_lemmas.Whole.{object_types_named, object_types_numbered, properties_named, properties_numbered, services_named, services_numbered}
use Rattle.gw_codecs.proofs.names.laws.other_texts.Goals as goal

pub returns-clause-object_types : goal.returns-clause-object_types
returns-clause-object_types c = knows_no_other object_types object_types_named object_types_numbered

pub returns-clause-properties : goal.returns-clause-properties
returns-clause-properties c = knows_no_other properties properties_named properties_numbered

pub returns-clause-services : goal.returns-clause-services
returns-clause-services c = knows_no_other services services_named services_numbered
