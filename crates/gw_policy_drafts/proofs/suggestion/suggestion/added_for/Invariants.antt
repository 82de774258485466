use Rattle.std.proofs.Common.{◌++◌}
use Rattle.std.specs.List.{AllByRecursion}
use Rattle.gw_policy_drafts.specs.suggestion.Suggestion.{Breaks, IsSuggestion, wanted}
use Rattle.gw_policy_drafts.specs.suggestion.Text.{rules_of}
use Rattle.gw_policy_drafts.proofs.suggestion.suggestion.added_for.Given as goal

abbrev pub invariant-loop : goal.invariant-loop
invariant-loop l =
    IsSuggestion l.fn.manner.keeps_services (wanted l.fn.manner l.fn.seen.given) (l.parted.kept.items ++ rules_of l.parted.left.items)
    × AllByRecursion (Breaks l.fn.config) l.parted.left.items
