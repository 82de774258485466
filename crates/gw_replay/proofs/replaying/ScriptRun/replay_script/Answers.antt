use Rattle.std.proofs.Common.{Bool, Result, Ok, subst, ap, arith}
use Rattle.std.specs.Io.KnownBytes.{prepend_known}
use Rattle.gw_replay.specs.declared.replaying.RunFault.{RunFault}
use Rattle.gw_replay.specs.declared.replaying.RunFault.TheVariants.{Read, Line, Write}
use Rattle.gw_script.proofs.KnownTexts.{nothing_held}
use Rattle.gw_script.proofs.Calls.{bound_at_first, bound_goes_on, calls_left, lines_left}
use Rattle.gw_replay.proofs.ReplayLemmas.{begins, goes_on, ends_whole, ends_part, ends_passed, flaw_at_line, Turns}
use Rattle.gw_script.proofs.Passing.{passed_as}
use Rattle.gw_replay.proofs.replaying.ScriptRun.replay_script.Goals as goal

pub loop-number-init : goal.loop-number-init
loop-number-init g c = record {
  progress = λ configuration stands script before known written.
      begins g.T.EventText.wording _ _ _ _ _ _ (nothing_held _ _ script c.requires.unread known) written stands;
  calls = λ script known. bound_at_first script _ _ _ c.requires.calls known (nothing_held _ _ script c.requires.unread known);
  lasting_reader = λ never. never;
  lasting_writer = λ never. never;
  counted = omega arith;
  most = omega (arith, c.requires.calls);
}

pub loop-number-preserved : goal.loop-number-preserved
loop-number-preserved g c =
    let n = c.loop-number.number in
    let w = c.loop-number.self.gateway in
    let moved = c.replay_line.new.self.gateway in
    let text = prepend_known c.loop-number.self.lines.unread (g.R.OctetSource.left c.loop-number.reader) in
    let left = prepend_known c.replay_line.new.self.lines.unread (g.R.OctetSource.left c.replay_line.new.reader) in
    let so_far = g.W.OctetSink.held c.loop-number.writer in
    let after = g.W.OctetSink.held c.replay_line.new.writer in record {
      progress = λ configuration stands script before known written.
          goes_on g.T.EventText.wording configuration script before n w moved text left so_far after
          (c.loop-number.invariant.progress configuration stands script before known written)
          (subst (λ (b : Bool). Turns g.T.EventText.wording n w moved text left so_far after (Ok b)) c.if-not-branch.false c.in_ok-replay_line.ensures.outcome);
      calls = λ script known.
          let bound = c.loop-number.invariant.calls script known in
          bound_goes_on script n _ _ _ _ _ _ bound
          (c.in_ok-replay_line.ensures.shorter bound.remains bound.text_is (ap Ok c.if-not-branch.false)) c.in_ok-replay_line.ensures.paid;
      lasting_reader = λ never. c.in_ok-replay_line.ensures.lasting_reader (c.loop-number.invariant.lasting_reader never);
      lasting_writer = λ never. c.in_ok-replay_line.ensures.lasting_writer (c.loop-number.invariant.lasting_writer never);
      counted = omega (arith, c.loop-number.invariant.counted, c.in_ok-replay_line.ensures.counted);
      most = c.in_ok-replay_line.ensures.most c.loop-number.invariant.most;
    }

pub returns-then-not-branch-clause-run : goal.returns-then-not-branch-clause-run
returns-then-not-branch-clause-run g c = λ configuration stands script before known written.
    let n = c.loop-number.number in
    let w = c.loop-number.self.gateway in
    let moved = c.replay_line.new.self.gateway in
    let text = prepend_known c.loop-number.self.lines.unread (g.R.OctetSource.left c.loop-number.reader) in
    let left = prepend_known c.replay_line.new.self.lines.unread (g.R.OctetSource.left c.replay_line.new.reader) in
    let so_far = g.W.OctetSink.held c.loop-number.writer in
    let after = g.W.OctetSink.held c.replay_line.new.writer in
    ends_whole g.T.EventText.wording configuration script before n w moved text left so_far after
    (c.loop-number.invariant.progress configuration stands script before known written)
    (subst (λ (b : Bool). Turns g.T.EventText.wording n w moved text left so_far after (Ok b)) c.if-not-branch.true c.in_ok-replay_line.ensures.outcome)

pub returns-in_err-replay_line-clause-run : goal.returns-in_err-replay_line-clause-run
returns-in_err-replay_line-clause-run g c = λ configuration stands script before known written.
    let n = c.loop-number.number in
    let w = c.loop-number.self.gateway in
    let moved = c.replay_line.new.self.gateway in
    let text = prepend_known c.loop-number.self.lines.unread (g.R.OctetSource.left c.loop-number.reader) in
    let left = prepend_known c.replay_line.new.self.lines.unread (g.R.OctetSource.left c.replay_line.new.reader) in
    let so_far = g.W.OctetSink.held c.loop-number.writer in
    let after = g.W.OctetSink.held c.replay_line.new.writer in
    ends_passed g.T.EventText.wording configuration script before n w moved text left so_far after c.in_err-replay_line.field-0.0 c.from_residual.result
    c.from_residual.ensures (c.loop-number.invariant.progress configuration stands script before known written) c.in_err-replay_line.ensures.outcome

pub returns-in_err-replay_line-clause-flaw : goal.returns-in_err-replay_line-clause-flaw
returns-in_err-replay_line-clause-flaw g c = λ configuration m stands e script before known written.
    let n = c.loop-number.number in
    let w = c.loop-number.self.gateway in
    let moved = c.replay_line.new.self.gateway in
    let text = prepend_known c.loop-number.self.lines.unread (g.R.OctetSource.left c.loop-number.reader) in
    let left = prepend_known c.replay_line.new.self.lines.unread (g.R.OctetSource.left c.replay_line.new.reader) in
    let so_far = g.W.OctetSink.held c.loop-number.writer in
    let after = g.W.OctetSink.held c.replay_line.new.writer in
    let is = passed_as c.in_err-replay_line.field-0.0 (Line m) c.from_residual.result c.from_residual.ensures e in
    flaw_at_line g.T.EventText.wording configuration script before n w moved text left so_far after m c.replay_line.new.self.flaw
    (c.loop-number.invariant.progress configuration stands script before known written)
    (subst (λ (r : Result Bool RunFault). Turns g.T.EventText.wording n w moved text left so_far after r) is c.in_err-replay_line.ensures.outcome)
    (λ t is_text. c.in_err-replay_line.ensures.flaw m is t is_text)

pub returns-clause-run : goal.returns-clause-run
returns-clause-run g c = λ configuration stands script before known written.
    let n = c.loop-number.number in
    let w = c.loop-number.self.gateway in
    let text = prepend_known c.loop-number.self.lines.unread (g.R.OctetSource.left c.loop-number.reader) in
    ends_part g.T.EventText.wording configuration script before n w text (g.W.OctetSink.held c.loop-number.writer)
    (c.loop-number.invariant.progress configuration stands script before known written)

pub returns-in_err-replay_line-clause-sure_reader : goal.returns-in_err-replay_line-clause-sure_reader
returns-in_err-replay_line-clause-sure_reader g c = λ never script known short e.
    calls_left script c.loop-number.number _ _ _ _ _ (c.loop-number.invariant.calls script known) c.in_err-replay_line.ensures.paid short
    (c.in_err-replay_line.ensures.sure_reader (c.loop-number.invariant.lasting_reader never)
    (passed_as c.in_err-replay_line.field-0.0 Read c.from_residual.result c.from_residual.ensures e))

pub returns-in_err-replay_line-clause-sure_writer : goal.returns-in_err-replay_line-clause-sure_writer
returns-in_err-replay_line-clause-sure_writer g c = λ never e. c.in_err-replay_line.ensures.sure_writer (c.loop-number.invariant.lasting_writer never)
    (passed_as c.in_err-replay_line.field-0.0 Write c.from_residual.result c.from_residual.ensures e)

pub returns-clause-sure_reader : goal.returns-clause-sure_reader
returns-clause-sure_reader g c = λ never script known short e.
    lines_left script c.loop-number.number _ _ _ (c.loop-number.invariant.calls script known) short
    (omega (arith, c.loop-number-test.false))
