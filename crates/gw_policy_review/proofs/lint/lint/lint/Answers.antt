use Rattle.std.proofs.Common.{rules, ◌≡◌, ◌∙◌, ◌++◌, [], ℕ, List, ap, subst}
use Rattle.gw_rules.specs.declared.rule.Rule.{Rule}
use Rattle.gw_script.specs.Order.{in_order}
use Rattle.gw_ask_sets.specs.shapes.Shape.{Shape}
use Rattle.gw_ask_sets.specs.shapes.Shapes.{shapes}
use Rattle.gw_policy_review.specs.lint.Finding.{AreTrue}
use Rattle.gw_policy_review.specs.lint.Notes.{AreNotes}
use Rattle.gw_policy_review.specs.lint.Text.{line_text}
use Rattle.gw_policy_review.specs.declared.lint.finding.Finding.{Finding}
use Rattle.gw_policy_review.proofs.lint.lint.lint.Goals as goal

pub returns : goal.returns
returns c =
    let config = c.args.config.now in
    let lines = c.args.lines.now in
    let those = shapes config in
    let findings = c.in_ok-findings.findings.found.items in
    let rest = c.in_ok-findings.findings.left in
    let one : c.deref.result.now ≡ those = search rules in
    let other : c.deref-3.result.now ≡ those = search rules in
    let same : c.deref-2.result.now ≡ findings = search rules in
    let notes = c.in_ok-put_notes.ensures in
    let empty : c.new-text.result.items ≡ [] = c.new-text.ensures.items in
    record {
      findings = findings;
      rest = rest;
      are_true = subst (λ (rs : List Rule). AreTrue those rs 262144 rest findings) c.rules.ensures.rules
          (subst (λ (ss : List Shape). AreTrue ss c.rules.result.now 262144 rest findings) one c.in_ok-findings.ensures);
      notes = notes.0;
      are_notes = subst (λ (ss : List Shape). AreNotes ss config lines notes.0) other notes.1;
      shown = notes.2
          ∙ ap (λ (t : List ℕ). t ++ notes.0)
          (subst (λ (fs : List Finding). c.put_lines.new.out.items ≡ in_order (line_text c.args.explains config lines fs) 1 fs) same
          (subst
          (λ (t : List ℕ). c.put_lines.new.out.items ≡ t ++ in_order (line_text c.args.explains config lines c.deref-2.result.now) 1 c.deref-2.result.now)
          empty c.in_ok-put_lines.ensures));
    }
