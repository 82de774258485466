use Rattle.std.proofs.Common.{length, rules, ◌≡◌, ◌<◌, ◌++◌, ◌+◌, get_or}
use Rattle.gw_policy_review.specs.declared.lint.finding.Finding.TheVariants as finding
use Rattle.gw_policy_review.specs.lint.Text.{line_text}
use Rattle.gw_script.proofs.Order.{in_order_none, in_order_step}
use Rattle.gw_policy_review.proofs.lint.text.Lint.put_lines.Goals as goal

pub loop-place-init : goal.loop-place-init
loop-place-init c = in_order_none (line_text c.args.self.now.explains c.args.self.now.config.now c.args.self.now.lines.now c.args.self.now.findings.now) c.args.out.now.items

pub loop-place-preserved : goal.loop-place-preserved
loop-place-preserved c =
    let text = line_text c.args.self.now.explains c.args.self.now.config.now c.args.self.now.lines.now c.args.self.now.findings.now in
    let findings = c.args.self.now.findings.now in
    let place = c.loop-place.place in
    let within : place < length findings = search rules in
    let then : c.put_line.new.out.items ≡ c.loop-place.out.items ++ text (place + 1) (get_or findings place finding.MatchesNothing) =
    c.in_ok-put_line.ensures in
    in_order_step text c.args.out.now.items c.loop-place.out.items c.put_line.new.out.items findings place finding.MatchesNothing within
    c.loop-place.invariant then
