use Rattle.std.proofs.Common.{◌∙◌}
use Rattle.gw_log_words.proofs.FieldsLemmas.{denial_read}
use Rattle.gw_log_words.proofs.form.DenialFormForm.passes.Goals as goal

pub returns : goal.returns
returns c = c.is_some.ensures ∙ denial_read c.args.text.now c.read_line.result c.read_line.ensures.found c.read_line.ensures.is c.read_line.ensures.only
