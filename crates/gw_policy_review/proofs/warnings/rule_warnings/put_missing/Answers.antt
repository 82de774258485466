use Rattle.gw_policy_review.specs.warnings.Warnings.{missing_lines}
use Rattle.gw_policy_review.proofs.warnings_lemmas.Lines.{lines_end, lines_failed, lines_start, lines_step}
use Rattle.gw_policy_review.proofs.warnings.rule_warnings.put_missing.Goals as goal

pub loop-item-init : goal.loop-item-init
loop-item-init c = lines_start (missing_lines c.args.ports c.args.field.now.format c.args.field.now.index c.args.field.now.name.now c.args.field.now.key.now) c.args.out.now

pub returns-in_err-put_missing_item : goal.returns-in_err-put_missing_item
returns-in_err-put_missing_item c =
    lines_failed _ c.from_residual.result (missing_lines c.args.ports c.args.field.now.format c.args.field.now.index c.args.field.now.name.now c.args.field.now.key.now) c.args.ranges.now c.loop-item.item _ c.args.out.now c.loop-item.out
    c.put_missing_item.new.out c.from_residual.ensures.0 c.loop-item-test.true c.loop-item.invariant c.in_err-put_missing_item.ensures

pub loop-item-preserved : goal.loop-item-preserved
loop-item-preserved c =
    lines_step _ (missing_lines c.args.ports c.args.field.now.format c.args.field.now.index c.args.field.now.name.now c.args.field.now.key.now) c.args.ranges.now c.loop-item.item _ c.args.out.now c.loop-item.out c.put_missing_item.new.out c.loop-item-test.true
    c.loop-item.invariant c.in_ok-put_missing_item.ensures

pub returns : goal.returns
returns c =
    lines_end _ (missing_lines c.args.ports c.args.field.now.format c.args.field.now.index c.args.field.now.name.now c.args.field.now.key.now) c.args.ranges.now c.loop-item.item c.args.out.now c.loop-item.out c.loop-item-test.false c.loop-item.invariant
