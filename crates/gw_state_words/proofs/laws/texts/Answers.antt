use Rattle.gw_state_words.proofs.TextLaws.{texts_are_printable}
use Rattle.gw_state_words.proofs.laws.texts.Goals as goal

pub returns : goal.returns
returns c = texts_are_printable
