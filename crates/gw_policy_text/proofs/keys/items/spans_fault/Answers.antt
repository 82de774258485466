use Rattle.std.proofs.Common.{arith}
use Rattle.gw_policy_text.proofs.keys_lemmas.Each.{spans_fault_end, spans_fault_stop}
use Rattle.gw_policy_text.proofs.keys.items.spans_fault.Goals as goal

pub returns-in-Err : goal.returns-in-Err
returns-in-Err c =
    spans_fault_stop _ _ _ _ _ _ c.have_span_kind.ensures c.if-have_span_kind.false c.loop-item-test.true c.item-item.is c.in-Err.ensures.range c.loop-item.invariant

pub returns : goal.returns
returns c =
    spans_fault_end _ _ _ c.loop-item.item-index c.have_span_kind.ensures c.if-have_span_kind.false (omega (arith, c.loop-item-test.false)) c.loop-item.invariant
