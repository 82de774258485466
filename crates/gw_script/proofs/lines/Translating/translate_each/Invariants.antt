use Rattle.std.proofs.Common.{◌≡◌, ◌+◌, ◌≤◌, ℕ, List, Some}
use Rattle.std.specs.Io.KnownBytes.{prepend_known}
use Rattle.gw_script.proofs.Calls.{CallBound}
use Rattle.gw_script.proofs.LinesLemmas.{Progress}
use Rattle.gw_script.proofs.lines.Translating.translate_each.Given as goal

abbrev pub invariant-loop-number : goal.invariant-loop-number
invariant-loop-number g l =
    let left = g.R.OctetSource.left in
    let held = g.W.OctetSink.held in record {
      progress : (script before : List ℕ) → left l.fn.reader ≡ Some script → held l.fn.writer ≡ Some before
          → Progress (g.T.LineTranslator.Translates l.fn.translator) script before l.number (prepend_known l.self.lines.unread (left l.reader)) (held l.writer);
      calls : (script : List ℕ) → left l.fn.reader ≡ Some script
          → CallBound script l.number l.self.lines.calls (left l.reader) (prepend_known l.self.lines.unread (left l.reader));
      lasting_reader : g.R.OctetSource.NeverFails l.fn.reader → g.R.OctetSource.NeverFails l.reader;
      lasting_writer : g.W.OctetSink.NeverFails l.fn.writer → g.W.OctetSink.NeverFails l.writer;
      counted : g.R.OctetSource.reads l.reader ≤ g.R.OctetSource.reads l.fn.reader + l.self.lines.calls;
      most : l.self.lines.calls ≤ 4294967295;
    }
