use Rattle.std.proofs.Common.{◌∙◌}
use Rattle.gw_log_words.proofs.FieldsLemmas.{ask_read}
use Rattle.gw_log_words.proofs.form.AskFormForm.passes.Goals as goal

pub returns : goal.returns
returns c = c.is_some.ensures ∙ ask_read c.args.text.now c.read_ask.result c.read_ask.ensures.found c.read_ask.ensures.only
