use Rattle.std.proofs.Common.{Bool, List, rules, ◌≡◌, ◌∙◌, ap, subst}
use Rattle.gw_rules.specs.declared.operation.Operation.TheVariants.{Route}
use Rattle.gw_rules.specs.declared.rule.Rule.{Rule}
use Rattle.gw_ask_sets.specs.shapes.Shape.{Shape}
use Rattle.gw_policy_review.specs.lint.Notes.{unnamed_if}
use Rattle.gw_policy_review.specs.lint.Passage.{ArePassages, passes, shapes_for}
use Rattle.gw_policy_review.specs.permissions.Passing.{IsPassage}
use Rattle.gw_policy_review.proofs.lint.note.unnamed.Goals as goal

pub returns : goal.returns
returns c =
    let config = c.args.config.now in
    let shapes = c.args.shapes.now in
    let left = c.args.left in
    let routed = c.in_ok-routed.routed.outcome in
    let between = c.in_ok-routed.routed.left in
    let found = c.in_ok-found.found.found.items in
    let rest = c.in_ok-found.found.left in
    let all = shapes_for Route shapes in
    let one : c.deref.result.now ≡ all = search rules in
    let here : c.deref-2.result.now ≡ c.in_ok-asked.asked.items = search rules in
    let asked = unnamed_if (passes routed) config shapes in
    let other : c.deref-2.result.now ≡ asked =
    here ∙ (c.in_ok-asked.ensures ∙ ap (λ (b : Bool). unnamed_if b config shapes) c.passes.ensures) in
    record {
      routed = routed;
      between = between;
      is_routed = subst (λ (rs : List Rule). IsPassage all rs left between routed) c.rules-rules.ensures.rules
          (subst (λ (those : List Shape). IsPassage those c.rules-rules.result.now left between routed) one c.in_ok-routed.ensures);
      are_found = subst (λ (rs : List Rule). ArePassages rs asked between rest found) c.rules-rules.ensures.rules
          (subst (λ (those : List Shape). ArePassages c.rules-rules.result.now those between rest found) other c.in_ok-found.ensures);
    }
