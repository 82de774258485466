use Rattle.std.proofs.Common.{◌≤◌, ◌<◌, length}
use Rattle.std.specs.Option.{IfSome}
use Rattle.gw_policy_drafts.specs.suggestion.Own.{CoverAlike}
use Rattle.gw_policy_drafts.proofs.suggestion.joining.fewest.Given as goal

abbrev pub invariant-loop-field : goal.invariant-loop-field
invariant-loop-field l = record {
  least : l.least ≤ length l.groups;
  best : IfSome l.best (λ fewer. CoverAlike l.groups fewer.items × (length fewer.items < length l.groups));
}
