use Rattle.std.proofs.Common.{Ok}
use Rattle.gw_shell.proofs.program.serve.Goals as goal

pub returns-in-Ok-clause-served : goal.returns-in-Ok-clause-served
returns-in-Ok-clause-served g c =
    let done = c.serve_run-done.ensures.served in
    (done.0, Ok c.in-Ok.edition, c.in-Ok.ensures, (c.serve_run-done.result, done.1, c.served.ensures), done.2)
