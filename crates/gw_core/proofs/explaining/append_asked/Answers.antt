use Rattle.std.proofs.Common.{arith}
use Rattle.std.proofs.lemmas.Grind.{common_steps}
use Rattle.gw_core.proofs.explaining.append_asked.Goals as goal

pub loop-ask-preserved : goal.loop-ask-preserved
loop-ask-preserved c = grind (arith, common_steps)
