-- Each row of each table is found by its number and by its name.
use Rattle.std.proofs.Common.{◌≡◌, true, refl}
use Rattle.std.specs.List.{list_all}
use Rattle.gw_codecs.specs.names.Tables.{object_types, properties, services}
use Rattle.std.proofs.lemmas.List.Sums.{AllPass-from_list_all}
use Rattle.gw_codecs.specs.names.Laws.{AreWords, is_word}
use Rattle.gw_codecs.proofs.names_lemmas.Rows.{is_named, is_numbered}

pub object_types_named : list_all (is_named object_types) object_types ≡ true
unfolding object_types
object_types_named = refl

pub object_types_numbered : list_all (is_numbered object_types) object_types ≡ true
unfolding object_types
object_types_numbered = refl

pub properties_named : list_all (is_named properties) properties ≡ true
unfolding properties
properties_named = refl

pub properties_numbered : list_all (is_numbered properties) properties ≡ true
unfolding properties
properties_numbered = refl

pub services_named : list_all (is_named services) services ≡ true
unfolding services
services_named = refl

pub services_numbered : list_all (is_numbered services) services ≡ true
unfolding services
services_numbered = refl

pub object_types_words : AreWords object_types
unfolding object_types
object_types_words = AllPass-from_list_all (λ row. is_word row.1) object_types refl

pub properties_words : AreWords properties
unfolding properties
properties_words = AllPass-from_list_all (λ row. is_word row.1) properties refl

pub services_words : AreWords services
unfolding services
services_words = AllPass-from_list_all (λ row. is_word row.1) services refl
