use Rattle.std.proofs.Common.{List, ◌∙◌, ap, ap₂}
use Rattle.gw_notices.specs.Reload.{reload_line}
use Rattle.gw_notices.specs.declared.parts.ConfigurationPart.{ConfigurationPart}
use Rattle.gw_rules.specs.declared.rule.Rule.{Rule}
use Rattle.gw_state.specs.Saved.{Saved}
use Rattle.gw_service.specs.Reload.{taken_over_line}
use Rattle.gw_service.proofs.reload.prepare.Goals as goal

pub returns-clause-line : goal.returns-clause-line
returns-clause-line c =
    let config = c.args.config.now in
    let saved = c.in_ok-saved.saved in
    c.in_ok-line.ensures
    ∙ ap₂ (λ (rules : List Rule) (differ : List ConfigurationPart). reload_line rules config saved differ) c.rules.ensures
    (c.deref.ensures.value ∙ c.in_ok-differ.ensures)
    ∙ ap (λ (s : Saved). taken_over_line c.args.gateway.now config s) c.in_ok-saved.ensures
