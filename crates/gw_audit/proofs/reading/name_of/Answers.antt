use Rattle.gw_audit.proofs.ReadingLemmas.{name_there, no_name}
use Rattle.gw_audit.proofs.reading.name_of.Goals as goal

pub returns-in-Ok : goal.returns-in-Ok
returns-in-Ok c = rw c.in-Ok.ensures.cases.0 (name_there c.args.text.now c.in-Ok.ensures.cases.1)

pub returns-in-Err : goal.returns-in-Err
returns-in-Err c = no_name c.args.text.now c.in-Err.ensures.cases.0
