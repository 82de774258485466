use Rattle.std.proofs.Common.{◌≡◌, take}
use Rattle.gw_policy_drafts.specs.suggestion.Given.{is_open}
use Rattle.gw_policy_drafts.specs.suggestion.Text.{total}
use Rattle.gw_policy_drafts.proofs.suggestion.text.count_open.Given as goal

abbrev pub invariant-loop-each : goal.invariant-loop-each
invariant-loop-each l = l.count ≡ total (is_open) (take l.each-index l.asks)
