use Rattle.std.proofs.Common.{◌≡◌, ◌≤◌, ◌+◌, true, drop}
use Rattle.gw_rules.specs.Ask.{Ask}
use Rattle.gw_rules.specs.declared.field.TheConstants.FieldName.{ALL}
use Rattle.gw_ask_sets.specs.regions.Regions.{lies}
use Rattle.gw_ask_sets.specs.regions.internal.Crowding.{miss_sum}
use Rattle.gw_ask_sets.proofs.regions.crowding.are_too_many.Given as goal

abbrev pub invariant-loop-field : goal.invariant-loop-field
invariant-loop-field l =
    (ask : Ask) → lies l.region ask ≡ true
    → miss_sum l.rules l.places ALL ask ≤ l.sum + miss_sum l.rules l.places (drop l.field-index ALL) ask
