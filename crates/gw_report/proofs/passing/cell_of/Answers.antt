use Rattle.std.proofs.Common.{◌≡◌, ◌+◌, ◌-◌, ◌≤◌, arith, subst, true, false, ℕ}
use Rattle.gw_policy_review.specs.permissions.Passing.{IsDecision}
use Rattle.gw_policy_review.proofs.permissions_lemmas.Passage.{given_left}
use Rattle.gw_report.proofs.passing.cell_of.Goals as goal

pub returns : goal.returns
returns c =
    let shapes = c.args.shapes.now in
    let rules = c.args.rules.now in
    let one = c.in_ok-allowed.allowed in
    let two = c.in_ok-denied.denied in
    let is_allowed = subst (λ (n : ℕ). IsDecision true shapes rules n one.steps one.outcome) c.steps_given-first.ensures c.in_ok-allowed.ensures in
    let is_denied = subst (λ (n : ℕ). IsDecision false shapes rules n two.steps two.outcome) c.steps_given-second.ensures c.in_ok-denied.ensures in
    let few = given_left 16384 c.args.left one.steps is_allowed.most in
    let less = given_left 16384 (c.args.left - one.steps) two.steps is_denied.most in
    record {
      allowed = one.outcome;
      first = one.steps;
      is_allowed = is_allowed;
      denied = two.outcome;
      second = two.steps;
      is_denied = is_denied;
      counted = omega (arith, few, less);
      shown = c.extent_of.ensures;
    }
