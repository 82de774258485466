use Rattle.std.proofs.Common.{◌≡◌, ◌∙◌, ◌+◌, ◌-◌, ◌≤◌, arith, length, rules, subst, ℕ}
use Rattle.gw_policy_review.specs.lint.Finding.{IsFinding}
use Rattle.gw_policy_review.proofs.lint_lemmas.Found.{next_found, none_found}
use Rattle.gw_policy_review.proofs.lint.finding.findings_of.Goals as goal

pub loop-place-init : goal.loop-place-init
loop-place-init c = none_found c.args.shapes.now c.args.rules.now c.new-findings.result.items c.args.steps (search rules)

pub loop-place-preserved : goal.loop-place-preserved
loop-place-preserved c =
    let left = c.loop-place.left in
    let here = c.in_ok-found.found.steps in
    let few : here ≤ left = search rules in
    let all = c.rules-all.result.now in
    let found = subst (λ (n : ℕ). IsFinding c.args.shapes.now all (c.loop-place.place + 1) n here c.in_ok-found.found.finding) c.steps_given.ensures
    c.in_ok-found.ensures.found in
    next_found c.args.shapes.now c.args.rules.now all c.loop-place.findings.items c.push.new.self.items c.loop-place.place
    c.args.steps left (left - here) here c.in_ok-found.found.finding c.rules-all.ensures.rules c.loop-place-test.true
    c.in_ok-push.ensures.items found (omega (arith, few)) c.loop-place.invariant

pub returns : goal.returns
returns c =
    let are = c.loop-place.invariant in
    let all : c.loop-place.place ≡ length c.args.rules.now = search rules in
    record { count = are.count ∙ all; each = are.each; counted = are.counted }
