use Rattle.std.proofs.Common.{Err, ap, inl, inr, refl}
use Rattle.gw_ending.proofs.reading.printing.print_ending.Goals as goal

pub returns-in-Ok-clause-output : goal.returns-in-Ok-clause-output
returns-in-Ok-clause-output g c = inl (refl, c.in-Ok.ensures.ok)

pub returns-in-Err-clause-output : goal.returns-in-Err-clause-output
returns-in-Err-clause-output g c = inr (ap Err c.in-Err.ensures.fault, c.in-Err.ensures.front)
