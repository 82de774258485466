use Rattle.std.proofs.Common.{Ok, Err, ap, refl}
use Rattle.gw_tools.proofs.program.choice_by.Goals as goal

pub returns-in-Ok : goal.returns-in-Ok
returns-in-Ok c = (Ok c.in-Ok.choice, c.in-Ok.ensures.answers, refl)

pub returns-in-Err : goal.returns-in-Err
returns-in-Err c = (Err c.in-Err.fault, c.in-Err.ensures.answers, ap Err c.from.ensures)
