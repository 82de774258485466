use Rattle.std.proofs.Common.{ap, ◌∙◌, ◌≡◌, false, true, sym}
use Rattle.std.specs.Prelude.{if◌then◌else◌}
use Rattle.std.specs.Option.{option_map_or}
use Rattle.gw_rules.specs.declared.decision.Decision.TheVariants.{Allow, Deny}
use Rattle.gw_rules.specs.RuleList.{allows, allows_at, first}
use Rattle.gw_rule_index.proofs.rule_index.RuleIndexJudge.decide.Goals as goal

pub returns-then-allows_first : goal.returns-then-allows_first
unfolding allows
returns-then-allows_first c rules built =
    let is : allows rules c.args.ask.now ≡ true = ap (λ o. option_map_or (allows_at rules) o false) (sym (c.first-by.ensures.first rules built)) ∙ sym (c.allows_first.ensures rules built) ∙ c.if-allows_first.true in
    sym (ap (λ b. if b then Allow else Deny (first rules c.args.ask.now)) is)

pub returns-else-allows_first : goal.returns-else-allows_first
unfolding allows
returns-else-allows_first c rules built =
    let is : allows rules c.args.ask.now ≡ false = ap (λ o. option_map_or (allows_at rules) o false) (sym (c.first-by.ensures.first rules built)) ∙ sym (c.allows_first.ensures rules built) ∙ c.if-allows_first.false in
    ap (λ o. Deny o) (c.first-by.ensures.first rules built) ∙ sym (ap (λ b. if b then Allow else Deny (first rules c.args.ask.now)) is)
