use Rattle.std.proofs.Common.{rules, ◌≡◌, ◌++◌, ◌+◌, ◌-◌, ◌<◌, get_or, length, subst, sym, take, ℕ, List}
use Rattle.gw_rules.specs.declared.rule.Rule.{Rule}
use Rattle.gw_script.specs.Order.{in_order}
use Rattle.gw_policy_review.specs.permissions.Allowances.{exception_text}
use Rattle.gw_script.proofs.Order.{in_order_none, in_order_step}
use Rattle.gw_policy_review.proofs.permissions.allowances.Found.put_exceptions.Goals as goal

pub loop-place-init : goal.loop-place-init
loop-place-init c =
    in_order_none (exception_text c.args.self.now.placed.now.config.now c.args.self.now.placed.now.lines.now c.args.self.now.findings.now c.args.rule.now)
    c.args.out.now.items

pub loop-place-preserved : goal.loop-place-preserved
loop-place-preserved c =
    let text = exception_text c.args.self.now.placed.now.config.now c.args.self.now.placed.now.lines.now c.args.self.now.findings.now c.args.rule.now in
    let item = c.index-rules-place.result in
    let here : get_or c.rules-rules.result.now c.loop-place.place item ≡ item = search rules in
    let inside : c.loop-place.place < length c.rules-rules.result.now = search rules in
    let then : c.put_exception.new.out.items ≡ c.loop-place.out.items ++ text (c.loop-place.place + 1) item = search rules in
    in_order_step text c.args.out.now.items c.loop-place.out.items c.put_exception.new.out.items c.rules-rules.result.now c.loop-place.place item
    inside c.loop-place.invariant
    (subst (λ (x : Rule). c.put_exception.new.out.items ≡ c.loop-place.out.items ++ text (c.loop-place.place + 1) x) (sym here) then)

pub returns : goal.returns
returns c =
    let text = exception_text c.args.self.now.placed.now.config.now c.args.self.now.placed.now.lines.now c.args.self.now.findings.now c.args.rule.now in
    let ends : c.loop-place.place ≡ c.args.number - 1 = search rules in
    let same : c.rules-rules.result.now ≡ c.args.self.now.placed.now.config.now.rules = search rules in
    subst (λ (n : ℕ). c.loop-place.out.items ≡ c.args.out.now.items ++ in_order text 1 (take n c.args.self.now.placed.now.config.now.rules)) ends
    (subst (λ (rs : List Rule). c.loop-place.out.items ≡ c.args.out.now.items ++ in_order text 1 (take c.loop-place.place rs)) same
    c.loop-place.invariant)
