use Rattle.std.proofs.Common.{◌+◌, ◌-◌, ◌≤◌, length}
use Rattle.std.specs.Io.KnownBytes.{Keeps, prepend_known}
use Rattle.gw_addr.specs.Text.{Lacks}
use Rattle.gw_script.specs.Reader.{IsGiven}
use Rattle.gw_script.proofs.reader.LineReader.find_line.Given as goal

abbrev pub invariant-loop-self : goal.invariant-loop-self
invariant-loop-self g l =
    let source = g.S.OctetSource in record {
      text : Keeps (prepend_known l.fn.self.unread (source.left l.fn.source)) (prepend_known l.self.unread (source.left l.source));
      few : length l.self.unread ≤ 4096;
      open_end : Lacks 10 l.self.unread;
      calls : l.fn.self.calls ≤ l.self.calls;
      given : IsGiven l.fn.self.calls (source.left l.fn.source) l.self.calls (source.left l.source);
      lasts : source.NeverFails l.fn.source → source.NeverFails l.source;
      counted : source.reads l.source + l.fn.self.calls ≤ source.reads l.fn.source + l.self.calls;
    }

abbrev pub decreases-loop-self : goal.decreases-loop-self
decreases-loop-self g l = 4294967295 - l.self.calls
