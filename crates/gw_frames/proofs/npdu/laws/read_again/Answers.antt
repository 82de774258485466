use Rattle.gw_frames.proofs.npdu_lemmas.Whole.{encoded_again}
use Rattle.gw_frames.proofs.npdu.laws.read_again.Goals as goal

pub returns : goal.returns
returns c = encoded_again
