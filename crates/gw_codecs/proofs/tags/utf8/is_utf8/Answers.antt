use Rattle.std.proofs.Common.{◌∙◌}
use Rattle.gw_codecs.proofs.tags_lemmas.Texts.{tells_utf8}
use Rattle.gw_codecs.proofs.tags.utf8.is_utf8.Goals as goal

pub returns : goal.returns
returns c = c.is_ok.ensures.value ∙ tells_utf8 c.from_utf8.result c.args.octets.now _ _ c.from_utf8.ensures.cases
