use Rattle.std.proofs.Common.{◌≡◌, ℕ, List, Some}
use Rattle.std.specs.Io.KnownBytes.{prepend_known}
use Rattle.gw_policy_drafts.proofs.suggestion_lemmas.LinesLaw.{Progress}
use Rattle.gw_policy_drafts.proofs.suggestion.reading.LinesRead.take_each.Given as goal

abbrev pub invariant-loop-number : goal.invariant-loop-number
invariant-loop-number g l = (log : List ℕ) → g.R.OctetSource.left l.fn.reader ≡ Some log
    → Progress l.rules log (prepend_known l.self.lines.unread (g.R.OctetSource.left l.reader)) l.self.seen.given
