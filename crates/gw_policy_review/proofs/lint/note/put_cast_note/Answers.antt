use Rattle.std.proofs.Common.{List, rules, ◌≡◌, ◌++◌, subst}
use Rattle.gw_rules.specs.declared.operation.Operation.TheVariants.{Cast}
use Rattle.gw_rules.specs.declared.rule.Rule.{Rule}
use Rattle.gw_ask_sets.specs.shapes.Shape.{Shape}
use Rattle.gw_policy_review.specs.lint.Notes.{cast_note}
use Rattle.gw_policy_review.specs.lint.Passage.{shapes_for}
use Rattle.gw_policy_review.specs.permissions.Passing.{IsPassage}
use Rattle.gw_policy_review.proofs.lint_lemmas.Notes.{broadcast}
use Rattle.gw_policy_review.proofs.lint.note.put_cast_note.Goals as goal

pub returns : goal.returns
returns c =
    let out = c.args.out.now.items in
    let new = c.put_cast_words.new.out.items in
    let left = c.args.left in
    let found = c.in_ok-found.found.outcome in
    let rest = c.in_ok-found.found.left in
    let distributed = shapes_for Cast c.args.shapes.now in
    let one : c.deref.result.now ≡ distributed = search rules in
    let other : c.deref-2.result.now ≡ distributed = search rules in
    broadcast c.args.shapes.now c.args.config.now found left rest out new
    (subst (λ (rs : List Rule). IsPassage distributed rs left rest found) c.rules.ensures.rules
    (subst (λ (those : List Shape). IsPassage those c.rules.result.now left rest found) one c.in_ok-found.ensures))
    (subst (λ (those : List Shape). new ≡ out ++ cast_note those found) other c.in_ok-put_cast_words.ensures)
