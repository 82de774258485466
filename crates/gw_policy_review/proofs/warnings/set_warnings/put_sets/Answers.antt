use Rattle.gw_policy_review.specs.warnings.Warnings.{set_lines}
use Rattle.gw_policy_review.proofs.warnings_lemmas.Lines.{item_failed, item_step, lines_end, lines_start}
use Rattle.gw_policy_review.proofs.warnings.set_warnings.put_sets.Goals as goal

pub loop-index-init : goal.loop-index-init
loop-index-init c = lines_start set_lines c.args.out.now

pub returns-in_err-put_set : goal.returns-in_err-put_set
returns-in_err-put_set c =
    item_failed _ c.from_residual.result (set_lines) c.args.sets.now c.loop-index.index c.index-sets-index.result c.args.out.now c.loop-index.out
    c.put_set.new.out c.index-sets-index.is c.from_residual.ensures.0 c.loop-index-test.true c.loop-index.invariant c.in_err-put_set.ensures

pub loop-index-preserved : goal.loop-index-preserved
loop-index-preserved c =
    item_step _ (set_lines) c.args.sets.now c.loop-index.index c.index-sets-index.result c.args.out.now c.loop-index.out c.put_set.new.out c.index-sets-index.is c.loop-index-test.true
    c.loop-index.invariant c.in_ok-put_set.ensures

pub returns : goal.returns
returns c =
    lines_end _ set_lines c.args.sets.now c.loop-index.index c.args.out.now c.loop-index.out c.loop-index-test.false c.loop-index.invariant
