use Rattle.gw_frames.proofs.bvll_lemmas.Messages.{reads_as}
use Rattle.gw_frames.proofs.bvll.laws.read_as.Goals as goal

pub returns : goal.returns
returns c = reads_as
