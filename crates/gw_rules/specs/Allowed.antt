-- Lists of asks of which a policy allows none.
use Rattle.std.specs.Prelude.{◌≡◌, true, false, List}
use Rattle.std.specs.List.{AllByRecursion}
use Rattle.gw_rules.specs.Ask.{Ask, IsFor}
use Rattle.gw_rules.specs.declared.operation.Operation.{Operation}
use Rattle.gw_rules.specs.declared.rule.Rule.{Rule}
use Rattle.gw_rules.specs.Operation.{changes}
use Rattle.gw_rules.specs.RuleList.{allows}

-- none of the asks that are such is allowed
abbrev pub NoneAllowed : (Ask → Type 0) → List Rule → List Ask → Type 0
NoneAllowed Such rules asks = AllByRecursion (λ ask. Such ask → allows rules ask ≡ false) asks

-- none of the asks for an operation that changes something is allowed
abbrev pub NoChangeAllowed : List Rule → List Ask → Type 0
NoChangeAllowed rules asks =
    (operation : Operation) → changes operation ≡ true → NoneAllowed (IsFor operation) rules asks
