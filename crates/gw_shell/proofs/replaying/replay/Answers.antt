use Rattle.std.proofs.Common.{sym, subst, Result, IsSomeAnd}
use Rattle.std.specs.Io.Buffered.{writer_contents}
use Rattle.gw_ending.specs.declared.fault.Fault.{Fault}
use Rattle.gw_shell.specs.Replay.{Plays}
use Rattle.gw_shell.specs.Replay.{first_fault}
use Rattle.gw_ending.proofs.reading_lemmas.KnownLemmas.{kept, weaker}
use Rattle.gw_shell.proofs.ReplayLemmas.{flushed_plays}
use Rattle.gw_shell.proofs.replaying.replay.Goals as goal

pub returns-clause-plays : goal.returns-clause-plays
returns-clause-plays g c = λ script before remains holds.
    let contents = writer_contents g.W.Write.contents in
    let explains = c.args.explains in
    let config = c.args.config in
    let run = c.play-run in
    let ends = first_fault run.result c.is_ok-is_flushed.result in
    let plays : IsSomeAnd (contents run.new.writer) (Plays explains config script before ends) =
    weaker (Plays explains config script before run.result) (Plays explains config script before ends) (contents run.new.writer)
    (λ bytes held. flushed_plays explains config script before bytes run.result c.is_ok-is_flushed.result held) (run.ensures script before remains holds) in
    subst (λ (r : Result (Unit {0}) Fault). IsSomeAnd (contents c.flush.new.self) (Plays explains config script before r)) (sym c.first_fault.ensures)
    (kept (Plays explains config script before ends) (contents run.new.writer) (contents c.flush.new.self) c.flush.ensures.bytes plays)
