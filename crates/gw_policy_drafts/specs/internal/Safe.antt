-- Rules of which each allows no more than a configuration to begin with may.
use Rattle.std.specs.Prelude.{◌==◌, Bool, ◌&&◌, ◌||◌, not, List, length, Some}
use Rattle.std.specs.List.{list_all}
use Rattle.gw_configuration.specs.declared.assertion.TheConstants.{WRITING_SERVICES}
use Rattle.gw_rules.specs.Operation.{operation_number}
use Rattle.gw_rules.specs.Range.{admits}
use Rattle.gw_rules.specs.declared.operation.Operation.{Operation}
use Rattle.gw_rules.specs.declared.operation.Operation.TheVariants as operation
use Rattle.gw_rules.specs.declared.operation.TheConstants.Operation.{ALL}
use Rattle.gw_rules.specs.declared.range.Range.{Range}
use Rattle.gw_rules.specs.declared.rule.Rule.{Rule}
use Rattle.gw_policy_drafts.specs.beginning.Begun.{is_closed, is_operator}
use Rattle.gw_policy_drafts.specs.declared.beginning.part.SitePart.{SitePart}

-- a range is the one key of an operator's station
abbrev pub is_one : List SitePart → Range → Bool
is_one operators range = (range.low == range.high) && is_operator operators range.low

-- a rule names operators alone as senders
abbrev pub names_operators : List SitePart → Rule → Bool
names_operators operators rule =
    not (length rule.ranges.sender == 0) && list_all (is_one operators) rule.ranges.sender

-- it names services that change no device
abbrev pub spares : Rule → Bool
spares rule = list_all (λ service. not (admits rule.ranges.service (Some service))) WRITING_SERVICES

-- it may allow an operation
abbrev pub may_allow : List SitePart → Rule → Operation → Bool
may_allow operators rule operation.Write = names_operators operators rule
may_allow operators rule operation.Cast = spares rule
may_allow operators rule operation.Route = spares rule
may_allow operators rule other = not (is_closed other)

abbrev pub is_safe_for : List SitePart → Rule → Operation → Bool
is_safe_for operators rule other =
    not (admits rule.ranges.operation (Some (operation_number other))) || may_allow operators rule other

abbrev pub is_safe : List SitePart → Rule → Bool
is_safe operators rule = not rule.allow || list_all (is_safe_for operators rule) ALL

abbrev pub are_safe : List SitePart → List Rule → Bool
are_safe operators rules = list_all (is_safe operators) rules
