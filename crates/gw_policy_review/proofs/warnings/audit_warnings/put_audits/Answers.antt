use Rattle.gw_policy_review.specs.warnings.Warnings.{audit_lines}
use Rattle.gw_policy_review.proofs.warnings_lemmas.Lines.{item_failed, item_step, lines_end, lines_start}
use Rattle.gw_policy_review.proofs.warnings.audit_warnings.put_audits.Goals as goal

pub loop-index-init : goal.loop-index-init
loop-index-init c = lines_start (audit_lines c.args.audits.now) c.args.out.now

pub returns-in_err-put_audit : goal.returns-in_err-put_audit
returns-in_err-put_audit c =
    item_failed _ c.from_residual.result (audit_lines c.args.audits.now) c.args.rules.now c.loop-index.index c.index-rules-index.result c.args.out.now c.loop-index.out
    c.put_audit.new.out c.index-rules-index.is c.from_residual.ensures.0 c.loop-index-test.true c.loop-index.invariant c.in_err-put_audit.ensures

pub loop-index-preserved : goal.loop-index-preserved
loop-index-preserved c =
    item_step _ (audit_lines c.args.audits.now) c.args.rules.now c.loop-index.index c.index-rules-index.result c.args.out.now c.loop-index.out c.put_audit.new.out c.index-rules-index.is c.loop-index-test.true
    c.loop-index.invariant c.in_ok-put_audit.ensures

pub returns : goal.returns
returns c =
    lines_end _ (audit_lines c.args.audits.now) c.args.rules.now c.loop-index.index c.args.out.now c.loop-index.out c.loop-index-test.false c.loop-index.invariant
