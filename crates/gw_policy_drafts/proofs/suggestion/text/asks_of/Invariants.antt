use Rattle.std.proofs.Common.{◌≡◌, take}
use Rattle.gw_rules.specs.Rule.{matches}
use Rattle.gw_policy_drafts.specs.suggestion.Text.{total}
use Rattle.gw_policy_drafts.proofs.suggestion.text.asks_of.Given as goal

abbrev pub invariant-loop-each : goal.invariant-loop-each
invariant-loop-each l = l.count ≡ total (matches l.rule) (take l.each-index l.asks)
