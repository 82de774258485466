use Rattle.std.proofs.Common.{ℕ, Result, subst, sym}
use Rattle.std.specs.Global.{Vec}
use Rattle.std.specs.Io.Buffered.{writer_contents}
use Rattle.gw_shell.specs.Deciding.{decisions_text}
use Rattle.gw_ending.specs.reading.Files.{result_map}
use Rattle.gw_shell.specs.Program.{LeavesCounted}
use Rattle.gw_ending.specs.declared.fault.Fault.{Fault}
use Rattle.gw_shell.proofs.DecidingLemmas.{unread_leaves}
use Rattle.gw_shell.proofs.deciding.replay_counting.Goals as goal

pub returns-in-Err-read_script-clause-output : goal.returns-in-Err-read_script-clause-output
returns-in-Err-read_script-clause-output g c =
    let text = result_map (λ (octets : Vec ℕ). octets.items) c.args.text.now in
    let input = g.R.OctetSource.left c.args.input.now in
    let held = writer_contents g.W.Write.contents c.args.output.now in
    let failed = c.failed-in-Err-read_script in
    let said = decisions_text failed.result.decisions in
    subst (λ (outcome : Result (Unit {0}) Fault). LeavesCounted c.args.explains text input held held outcome said) (sym failed.ensures.outcome)
    (unread_leaves c.args.explains text c.in-Ok.config input held c.in-Err-read_script.fault said c.in-Ok.ensures c.in-Err-read_script.ensures.fault failed.ensures.silent)
