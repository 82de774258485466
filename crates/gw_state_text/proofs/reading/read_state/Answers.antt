use Rattle.std.proofs.Common.{Err, Ok}
use Rattle.gw_state_text.proofs.StepLemmas.{fault_is, fault_so, read_back, state_so}
use Rattle.gw_state_text.proofs.reading.read_state.Goals as goal

pub returns-in-Ok-clause-back : goal.returns-in-Ok-clause-back
returns-in-Ok-clause-back c =
    read_back c.args.text.now (Ok c.in-Ok.saved) (state_so c.args.text.now c.in-Ok.saved c.in-Ok.ensures.exact)

pub returns-in-Err-clause-back : goal.returns-in-Err-clause-back
returns-in-Err-clause-back c =
    read_back c.args.text.now (Err (fault_is c.line_of.result c.kind_at.result))
    (fault_so c.args.text.now c.in-Err.stop c.line_of.result c.kind_at.result c.in-Err.ensures.exact c.line_of.ensures c.kind_at.ensures)
