use Rattle.std.proofs.Common.{◌≡◌, length, map, take}
use Rattle.gw_rules.specs.declared.rule.Rule.{Rule}
use Rattle.gw_policy_review.proofs.comparison.parts.have_same_names.Given as goal

abbrev pub invariant-loop-place : goal.invariant-loop-place
invariant-loop-place l = record {
  lengths : length l.rules ≡ length l.others;
  front : map (λ (rule : Rule). rule.name) (take l.place l.rules) ≡ map (λ (rule : Rule). rule.name) (take l.place l.others);
}
