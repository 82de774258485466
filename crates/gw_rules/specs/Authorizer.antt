-- What an authorizer keeps: the asks that the policy denies, but by quiet rules.
use Rattle.std.specs.Prelude.{List, filter, map}
use Rattle.gw_rules.specs.declared.refusal.Refusal.{Refusal}
use Rattle.gw_rules.specs.declared.rule.Rule.{Rule}
use Rattle.gw_rules.specs.Ask.{Ask}
use Rattle.gw_rules.specs.RuleList.{first, is_logged}

-- an ask that is denied, and the number of its first rule, or none
abbrev pub refusal : List Rule → Ask → Refusal
refusal rules ask = record { ask = ask; by = first rules ask }

-- the asks that the rules don't allow and whose first rule isn't quiet, in order, each with the number of that rule, or none
abbrev pub denied_of : List Rule → List Ask → List Refusal
denied_of rules asks = map (refusal rules) (filter (is_logged rules) asks)

-- what contracts see of an authorizer
pub record AuthorizerState (J : Type 0) : Type 0 where
  pub judge : J
  pub denied : List Refusal
