use Rattle.gw_frames.proofs.npdu_lemmas.Whole.{read_once}
use Rattle.gw_frames.proofs.npdu.laws.one_message.Goals as goal

pub returns : goal.returns
returns c = read_once
