use Rattle.std.proofs.Common.{◌≡◌, ℕ, List, Some, length}
use Rattle.std.specs.Io.KnownBytes.{prepend_known}
use Rattle.gw_replay.proofs.CountingLemmas.{Progress}
use Rattle.gw_replay.proofs.counting.ScriptCounting.count_each.Given as goal

abbrev pub invariant-loop-number : goal.invariant-loop-number
invariant-loop-number g l =
    let left = g.R.OctetSource.left in record {
      progress : (text : List ℕ) → left l.fn.reader ≡ Some text
          → Progress l.fn.announces l.fn.ports l.fn.self.gateway text l.fn.self.tally (prepend_known l.self.lines.unread (left l.reader)) l.self.gateway
          l.self.tally;
      rules : l.self.gateway.rules ≡ l.fn.self.gateway.rules;
      places : length l.self.tally ≡ length l.fn.self.tally;
    }
