use Rattle.gw_frames.proofs.bvll_lemmas.Messages.{bvll_again, encoding_tells}
use Rattle.gw_frames.proofs.bvll.laws.one_to_one.Goals as goal

pub returns : goal.returns
returns c = record { again = bvll_again; unique = encoding_tells }
