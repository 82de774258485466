use Rattle.gw_verdicts.proofs.WhyLaw.{why_names_the_rule}
use Rattle.gw_verdicts.proofs.laws.lines.Goals as goal

pub returns : goal.returns
returns c = why_names_the_rule
