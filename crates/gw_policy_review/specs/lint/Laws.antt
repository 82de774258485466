-- What a note on broadcasts says.
use Rattle.std.specs.Prelude.{◌≡◌, ℕ, true, false, List}
use Rattle.gw_rules.specs.Ask.{Ask, IsFor}
use Rattle.gw_rules.specs.RuleList.{allows}
use Rattle.gw_rules.specs.declared.operation.Operation.TheVariants.{Cast}
use Rattle.gw_rules.specs.declared.rule.Rule.{Rule}
use Rattle.gw_ask_sets.specs.declared.shapes.search.Outcome.{Outcome}
use Rattle.gw_ask_sets.specs.shapes.Shape.{LiesInOne, Shape}
use Rattle.gw_policy_review.specs.lint.Passage.{shapes_for}
use Rattle.gw_policy_review.specs.permissions.Passing.{IsPassage, is_never}

-- Where it is made, no ask of these shapes to pass a broadcast on is allowed.
abbrev pub NoBroadcastIsAllowed : Type 0
NoBroadcastIsAllowed =
    (shapes : List Shape) (rules : List Rule) (left rest : ℕ) (found : Outcome) (ask : Ask) →
    IsPassage (shapes_for Cast shapes) rules left rest found → is_never found ≡ true → LiesInOne shapes ask → IsFor Cast ask →
    allows rules ask ≡ false
