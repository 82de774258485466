use Rattle.gw_report.proofs.page_lemmas.Texts.{texts_are_harmless}
use Rattle.gw_report.proofs.page.laws.texts.Goals as goal

pub returns : goal.returns
returns c = texts_are_harmless
