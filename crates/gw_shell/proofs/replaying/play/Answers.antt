use Rattle.std.proofs.Common.{Bool, Result, None, Some, sym, subst}
use Rattle.std.specs.Io.Buffered.{writer_contents}
use Rattle.gw_script.specs.Known.{OnKnown}
use Rattle.gw_shell.specs.Replay.{outcome_of}
use Rattle.gw_shell.specs.Replay.{Plays}
use Rattle.gw_ending.specs.declared.fault.Fault.{Fault}
use Rattle.gw_shell.proofs.ReplayLemmas.{explained_plays, run_plays}
use Rattle.gw_shell.proofs.replaying.play.Goals as goal

pub returns-then-explains : goal.returns-then-explains
returns-then-explains g c =
    let contents = writer_contents g.W.Write.contents in
    let read = g.R.OctetSource.left c.args.reader.now in
    let held = contents c.args.writer.now in
    let run = c.replay_explaining-run in
    let holds = contents run.new.writer in
    subst (λ (r : Result (Unit {0}) Fault). OnKnown read held holds (λ script before. Plays c.args.explains c.args.config script before r))
    (sym c.outcome_of.ensures)
    (subst (λ (b : Bool). OnKnown read held holds (λ script before. Plays b c.args.config script before (outcome_of (Some run.new.flaw) run.result))) (sym c.if-explains.true)
    (explained_plays c.args.config read held holds run.result run.new.flaw run.ensures.run run.ensures.flaw))

pub returns-else-explains : goal.returns-else-explains
returns-else-explains g c =
    let contents = writer_contents g.W.Write.contents in
    let read = g.R.OctetSource.left c.args.reader.now in
    let held = contents c.args.writer.now in
    let run = c.replay in
    let holds = contents run.new.writer in
    subst (λ (r : Result (Unit {0}) Fault). OnKnown read held holds (λ script before. Plays c.args.explains c.args.config script before r))
    (sym c.outcome_of-else-explains.ensures)
    (subst (λ (b : Bool). OnKnown read held holds (λ script before. Plays b c.args.config script before (outcome_of None run.result))) (sym c.if-explains.false)
    (run_plays c.args.config read held holds run.result run.ensures.run))
