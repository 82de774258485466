use Rattle.std.proofs.Common.{List, [], ◌∷◌, IfOk, length, ◌≡◌, ◌∙◌, ap, subst, ℕ}
use Rattle.gw_configuration.specs.declared.device.Device.{Device}
use Rattle.gw_configuration.specs.declared.port.Port.{Port}
use Rattle.gw_rules.specs.declared.rule.Rule.{Rule}
use Rattle.gw_ask_sets.specs.shapes.Shape.{Shape}
use Rattle.gw_policy_review.specs.declared.permissions.passing.Passage.{Passage}
use Rattle.gw_policy_review.specs.permissions.Passing.{IsPassage}
use Rattle.gw_policy_review.specs.permissions.Questions.{reading}
use Rattle.gw_policy_review.proofs.permissions.objects.Reader.find.Goals as goal

pub returns : goal.returns
returns c =
    let config = c.args.self.now.config.now in
    let point = c.args.point in
    let network = c.args.self.now.network in
    let left = c.args.left in
    let asked = reading (length config.ports) config.device.network network point in
    let same : c.reading-shape.result ≡ asked =
    c.reading-shape.ensures
    ∙ ap (λ (ps : List Port). reading (length ps) c.from-device.result c.from.result point) c.ports.ensures.ports
    ∙ ap (λ (d : ℕ). reading (length config.ports) d c.from.result point)
    (c.from-device.ensures ∙ c.get.ensures.value ∙ ap (λ (d : Device). d.network) c.device.ensures.device)
    ∙ ap (λ (n : ℕ). reading (length config.ports) config.device.network n point) c.from.ensures in
    subst (λ (rs : List Rule). IfOk c.search_allowed.result (λ (p : Passage). IsPassage (asked ∷ []) rs left p.left p.outcome))
    c.rules.ensures.rules
    (subst (λ (s : Shape). IfOk c.search_allowed.result (λ (p : Passage). IsPassage (s ∷ []) c.rules.result.now left p.left p.outcome)) same
    c.search_allowed.ensures)
