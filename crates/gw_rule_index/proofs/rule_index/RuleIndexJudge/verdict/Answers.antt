use Rattle.std.proofs.Common.{ap, ◌∙◌, false}
use Rattle.std.specs.Option.{option_map_or}
use Rattle.gw_rules.specs.RuleList.{allows, allows_at}
use Rattle.gw_rule_index.proofs.rule_index.RuleIndexJudge.verdict.Goals as goal

pub returns-clause-allows : goal.returns-clause-allows
unfolding allows
returns-clause-allows c rules built =
    c.allows_first.ensures rules built ∙ ap (λ o. option_map_or (allows_at rules) o false) (c.first-by.ensures.first rules built)
