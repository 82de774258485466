use Rattle.gw_codecs.proofs.tags_lemmas.Objects.{object_read, object_encoded}
use Rattle.gw_codecs.proofs.tags.laws.objects.Goals as goal

pub returns-clause-read : goal.returns-clause-read
returns-clause-read c = object_read

pub returns-clause-encoded : goal.returns-clause-encoded
returns-clause-encoded c = object_encoded
