use Rattle.std.proofs.Common.{◌≡◌, ℕ, List, Some, length}
use Rattle.std.specs.Io.KnownBytes.{prepend_known}
use Rattle.gw_decisions.proofs.tally_lemmas.CountingLemmas.{Progress}
use Rattle.gw_decisions.proofs.tally.counting.AskCounting.count_each.Given as goal

abbrev pub invariant-loop-number : goal.invariant-loop-number
invariant-loop-number g l =
    let left = g.R.OctetSource.left in record {
      progress : (text : List ℕ) → left l.fn.reader ≡ Some text
          → Progress l.fn.rules text l.number (prepend_known l.self.lines.unread (left l.reader)) l.self.tally;
      places : length l.self.tally ≡ length l.fn.self.tally;
    }
