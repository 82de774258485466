use Rattle.gw_script.proofs.LinesLemmas.{part_before}
use Rattle.gw_script.proofs.lines.translate_lines.Goals as goal

pub returns-in_default-clause-translated : goal.returns-in_default-clause-translated
returns-in_default-clause-translated g c = λ script before known written.
    part_before (g.T.LineTranslator.Translates c.args.translator.now) script before _ written
