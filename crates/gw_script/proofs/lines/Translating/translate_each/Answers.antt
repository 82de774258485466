use Rattle.std.proofs.Common.{Bool, Ok, subst, ap, arith}
use Rattle.std.specs.Io.KnownBytes.{prepend_known}
use Rattle.gw_script.specs.Lines.{OnKnownLine}
use Rattle.gw_script.specs.declared.lines.LinesFault.TheVariants.{Read, Write}
use Rattle.gw_script.proofs.Calls.{bound_at_first, bound_goes_on, calls_left, lines_left}
use Rattle.gw_script.proofs.KnownTexts.{nothing_held}
use Rattle.gw_script.proofs.LinesLemmas.{begins, ends_part, ends_passed, ends_whole, goes_on}
use Rattle.gw_script.proofs.Passing.{passed_as}
use Rattle.gw_script.proofs.lines.Translating.translate_each.Goals as goal

pub loop-number-init : goal.loop-number-init
loop-number-init g c = record {
  progress = λ script before known written.
      begins (g.T.LineTranslator.Translates c.args.translator.now) script before _ _ (nothing_held _ _ script c.requires.unread known) written;
  calls = λ script known. bound_at_first script _ _ _ c.requires.calls known (nothing_held _ _ script c.requires.unread known);
  lasting_reader = λ never. never;
  lasting_writer = λ never. never;
  counted = omega arith;
  most = omega (arith, c.requires.calls);
}

pub loop-number-preserved : goal.loop-number-preserved
loop-number-preserved g c =
    let n = c.loop-number.number in
    let translates = g.T.LineTranslator.Translates c.args.translator.now in
    let refuses = g.T.LineTranslator.Refuses c.args.translator.now in
    let text = prepend_known c.loop-number.self.lines.unread (g.R.OctetSource.left c.loop-number.reader) in
    let left = prepend_known c.translate_next.new.self.lines.unread (g.R.OctetSource.left c.translate_next.new.reader) in
    let so_far = g.W.OctetSink.held c.loop-number.writer in
    let after = g.W.OctetSink.held c.translate_next.new.writer in record {
      progress = λ script before known written.
          goes_on translates refuses script before n text left so_far after (c.loop-number.invariant.progress script before known written)
          (subst (λ (b : Bool). OnKnownLine translates refuses n text left so_far after (Ok b)) c.if-not-branch.false c.in_ok-translate_next.ensures.outcome);
      calls = λ script known.
          let bound = c.loop-number.invariant.calls script known in
          bound_goes_on script n _ _ _ _ _ _ bound
          (c.in_ok-translate_next.ensures.shorter bound.remains bound.text_is (ap Ok c.if-not-branch.false)) c.in_ok-translate_next.ensures.paid;
      lasting_reader = λ never. c.in_ok-translate_next.ensures.lasting_reader (c.loop-number.invariant.lasting_reader never);
      lasting_writer = λ never. c.in_ok-translate_next.ensures.lasting_writer (c.loop-number.invariant.lasting_writer never);
      counted = omega (arith, c.loop-number.invariant.counted, c.in_ok-translate_next.ensures.counted);
      most = c.in_ok-translate_next.ensures.most c.loop-number.invariant.most;
    }

pub returns-then-not-branch-clause-translated : goal.returns-then-not-branch-clause-translated
returns-then-not-branch-clause-translated g c = λ script before known written.
    let n = c.loop-number.number in
    let translates = g.T.LineTranslator.Translates c.args.translator.now in
    let refuses = g.T.LineTranslator.Refuses c.args.translator.now in
    let text = prepend_known c.loop-number.self.lines.unread (g.R.OctetSource.left c.loop-number.reader) in
    let left = prepend_known c.translate_next.new.self.lines.unread (g.R.OctetSource.left c.translate_next.new.reader) in
    let so_far = g.W.OctetSink.held c.loop-number.writer in
    let after = g.W.OctetSink.held c.translate_next.new.writer in
    ends_whole translates refuses script before n text left so_far after (c.loop-number.invariant.progress script before known written)
    (subst (λ (b : Bool). OnKnownLine translates refuses n text left so_far after (Ok b)) c.if-not-branch.true c.in_ok-translate_next.ensures.outcome)

pub returns-in_err-translate_next-clause-translated : goal.returns-in_err-translate_next-clause-translated
returns-in_err-translate_next-clause-translated g c = λ script before known written.
    let n = c.loop-number.number in
    let translates = g.T.LineTranslator.Translates c.args.translator.now in
    let refuses = g.T.LineTranslator.Refuses c.args.translator.now in
    let text = prepend_known c.loop-number.self.lines.unread (g.R.OctetSource.left c.loop-number.reader) in
    let left = prepend_known c.translate_next.new.self.lines.unread (g.R.OctetSource.left c.translate_next.new.reader) in
    let so_far = g.W.OctetSink.held c.loop-number.writer in
    let after = g.W.OctetSink.held c.translate_next.new.writer in
    ends_passed translates refuses script before n text left so_far after (c.loop-number.invariant.progress script before known written)
    c.in_err-translate_next.field-0.0 c.from_residual.result c.from_residual.ensures c.in_err-translate_next.ensures.outcome

pub returns-clause-translated : goal.returns-clause-translated
returns-clause-translated g c = λ script before known written.
    let n = c.loop-number.number in
    let text = prepend_known c.loop-number.self.lines.unread (g.R.OctetSource.left c.loop-number.reader) in
    ends_part (g.T.LineTranslator.Translates c.args.translator.now) script before n text (g.W.OctetSink.held c.loop-number.writer)
    (c.loop-number.invariant.progress script before known written)

pub returns-in_err-translate_next-clause-sure_reader : goal.returns-in_err-translate_next-clause-sure_reader
returns-in_err-translate_next-clause-sure_reader g c = λ never script known short e.
    calls_left script c.loop-number.number _ _ _ _ _ (c.loop-number.invariant.calls script known) c.in_err-translate_next.ensures.paid short
    (c.in_err-translate_next.ensures.sure_reader (c.loop-number.invariant.lasting_reader never)
    (passed_as c.in_err-translate_next.field-0.0 Read c.from_residual.result c.from_residual.ensures e))

pub returns-in_err-translate_next-clause-sure_writer : goal.returns-in_err-translate_next-clause-sure_writer
returns-in_err-translate_next-clause-sure_writer g c = λ never e.
    c.in_err-translate_next.ensures.sure_writer (c.loop-number.invariant.lasting_writer never)
    (passed_as c.in_err-translate_next.field-0.0 Write c.from_residual.result c.from_residual.ensures e)

pub returns-clause-sure_reader : goal.returns-clause-sure_reader
returns-clause-sure_reader g c = λ never script known short e.
    lines_left script c.loop-number.number _ _ _ (c.loop-number.invariant.calls script known) short
    (omega (arith, c.loop-number-test.false))
