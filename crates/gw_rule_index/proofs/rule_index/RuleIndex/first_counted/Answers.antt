use Rattle.gw_rules.specs.Rule.{matches}
use Rattle.gw_rules.specs.RuleList.{first}
use Rattle.gw_rule_index.proofs.rule_index.RuleIndex.first_counted.Goals as goal

pub returns-clause-first : goal.returns-clause-first
unfolding first
returns-clause-first c rules built =
    c.first.ensures.first rules (λ rule. matches rule c.args.ask.now) built.few (c.matching-row.ensures.row rules built)
