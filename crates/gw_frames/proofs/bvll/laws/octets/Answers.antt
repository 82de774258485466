use Rattle.std.proofs.Common.{arith}
use Rattle.gw_frames.proofs.bvll.laws.octets.Goals as goal

pub returns : goal.returns
returns c = λ i. omega (arith, c.type_inv.octets i)
