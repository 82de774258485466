use Rattle.gw_policy_drafts.proofs.suggestion_lemmas.LinesLaw.{tells_none}
use Rattle.gw_policy_drafts.proofs.suggestion.reading.ask_in_line.Goals as goal

pub returns-in-None : goal.returns-in-None
returns-in-None c = tells_none c.args.line.now c.words_of.result.now c.words_of.ensures c.in-None.ensures.only
