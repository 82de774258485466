use Rattle.std.proofs.Common.{length, rules, ◌≡◌, ◌+◌, sym}
use Rattle.gw_policy_review.specs.permissions.Passing.{searched_rules}
use Rattle.gw_policy_review.proofs.permissions_lemmas.Passage.{are_none, none_decided, one_decided, one_more}
use Rattle.gw_policy_review.proofs.permissions.passing.search_decided.Goals as goal

pub loop-place-init : goal.loop-place-init
loop-place-init c = are_none c.args.says c.args.shapes.now c.deref.result.now c.args.steps

pub loop-place-preserved : goal.loop-place-preserved
loop-place-preserved c =
    one_more c.args.says c.args.shapes.now c.deref.result.now c.args.steps c.loop-place.place c.loop-place.used c.in_ok-found.found.steps
    c.in_ok-found.found.outcome (sym c.if-not-is_never.ensures) c.in_ok-found.ensures.said c.loop-place.invariant

pub returns-then-not-is_never : goal.returns-then-not-is_never
returns-then-not-is_never c =
    let same : c.deref.result.now ≡ searched_rules c.args.policy.now = search rules in
    one_decided c.args.says c.args.shapes.now c.args.policy.now c.deref.result.now c.args.steps c.loop-place.place c.loop-place.used
    c.in_ok-found.found.steps c.in_ok-found.found.outcome same c.in_ok-found.ensures.said (sym c.if-not-is_never.ensures) c.loop-place.invariant

pub returns : goal.returns
returns c =
    let same : c.deref.result.now ≡ searched_rules c.args.policy.now = search rules in
    let all : c.loop-place.place ≡ length c.args.policy.now + 1 = search rules in
    none_decided c.args.says c.args.shapes.now c.args.policy.now c.deref.result.now c.args.steps c.loop-place.place c.loop-place.used same all
    c.loop-place.invariant
