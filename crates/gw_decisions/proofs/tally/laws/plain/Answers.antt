use Rattle.gw_decisions.proofs.tally_lemmas.LineLaw.{plain_line_stays}
use Rattle.gw_decisions.proofs.tally.laws.plain.Goals as goal

pub returns : goal.returns
returns c = plain_line_stays
