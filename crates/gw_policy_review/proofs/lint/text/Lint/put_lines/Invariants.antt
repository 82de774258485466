use Rattle.std.proofs.Common.{◌≡◌, ◌++◌, take}
use Rattle.gw_policy_review.specs.lint.Text.{line_text}
use Rattle.gw_script.specs.Order.{in_order}
use Rattle.gw_policy_review.proofs.lint.text.Lint.put_lines.Given as goal

abbrev pub invariant-loop-place : goal.invariant-loop-place
invariant-loop-place l = l.out.items ≡ l.fn.out.items ++ in_order (line_text l.self.explains l.self.config.now l.self.lines.now l.self.findings.now) 1 (take l.place l.self.findings.now)
