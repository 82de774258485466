use Rattle.gw_policy_review.specs.warnings.Warnings.{cut_lines}
use Rattle.gw_policy_review.proofs.warnings_lemmas.Lines.{lines_end, lines_failed, lines_start, lines_step}
use Rattle.gw_policy_review.proofs.warnings.rule_warnings.put_cuts.Goals as goal

pub loop-item-init : goal.loop-item-init
loop-item-init c = lines_start (cut_lines c.args.field.now.format c.args.field.now.index c.args.field.now.name.now c.args.field.now.key.now) c.args.out.now

pub returns-in_err-put_cut : goal.returns-in_err-put_cut
returns-in_err-put_cut c =
    lines_failed _ c.from_residual.result (cut_lines c.args.field.now.format c.args.field.now.index c.args.field.now.name.now c.args.field.now.key.now) c.args.ranges.now c.loop-item.item _ c.args.out.now c.loop-item.out
    c.put_cut.new.out c.from_residual.ensures.0 c.loop-item-test.true c.loop-item.invariant c.in_err-put_cut.ensures

pub loop-item-preserved : goal.loop-item-preserved
loop-item-preserved c =
    lines_step _ (cut_lines c.args.field.now.format c.args.field.now.index c.args.field.now.name.now c.args.field.now.key.now) c.args.ranges.now c.loop-item.item _ c.args.out.now c.loop-item.out c.put_cut.new.out c.loop-item-test.true
    c.loop-item.invariant c.in_ok-put_cut.ensures

pub returns : goal.returns
returns c =
    lines_end _ (cut_lines c.args.field.now.format c.args.field.now.index c.args.field.now.name.now c.args.field.now.key.now) c.args.ranges.now c.loop-item.item c.args.out.now c.loop-item.out c.loop-item-test.false c.loop-item.invariant
