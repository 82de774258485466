-- What a search for an ask that a rule decides says of the rule.
use Rattle.std.proofs.Common.{ℕ, ◌-◌, List, take}
use Rattle.gw_rules.specs.declared.rule.Rule.{Rule}
use Rattle.gw_ask_sets.specs.shapes.Search.{IsFound, IsMade}
use Rattle.gw_ask_sets.specs.shapes.Shape.{Shape}
use Rattle.gw_ask_sets.specs.declared.shapes.search.Outcome.{Outcome}
use Rattle.gw_ask_sets.specs.declared.shapes.search.Outcome.TheVariants as outcome
use Rattle.gw_ask_sets.proofs.regions_lemmas.UnmatchedLaw.{ended_found, ended_nothing}
use Rattle.gw_ask_sets.proofs.shapes_lemmas.Narrowing.{is_first_for, never_first}

pub is_found : (shapes : List Shape) (rules : List Rule) (number given count : ℕ) (found : Outcome) → IsMade shapes rules number given count found
    → IsFound shapes rules number found
is_found shapes rules number given count outcome.Never made =
    never_first shapes rules number made.rule made.regions made.numbered.there made.matched
    (ended_nothing (take (number - 1) rules) made.regions count made.ended)
is_found shapes rules number given count (outcome.Decides ask) made =
    is_first_for shapes rules number made.rule made.regions ask made.numbered made.matched
    (ended_found (take (number - 1) rules) made.regions count ask made.ended)
is_found shapes rules number given count outcome.Unknown made = tt
