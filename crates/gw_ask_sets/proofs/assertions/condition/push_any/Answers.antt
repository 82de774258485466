use Rattle.std.proofs.Common.{sym}
use Rattle.gw_ask_sets.proofs.assertions_lemmas.AssertionLaw.{any_named, any_passing}
use Rattle.gw_ask_sets.proofs.assertions.condition.push_any.Goals as goal

pub returns-then-is_empty : goal.returns-then-is_empty
returns-then-is_empty c =
    any_named c.args.assertion.now c.args.operation c.args.services.now c.in_ok-named.named c.args.out.now.items c.push.new.self.items
    c.in_ok-condition.condition c.in_ok-push.ensures.items c.in_ok-condition.ensures c.in_ok-named.ensures (sym c.if-is_empty.ensures)

pub returns : goal.returns
returns c =
    any_passing c.args.assertion.now c.args.operation c.args.services.now c.in_ok-named.named c.args.out.now.items c.push.new.self.items
    c.push-2.new.self.items c.in_ok-condition.condition c.in_ok-passing.passing c.in_ok-push.ensures.items c.in_ok-condition.ensures
    c.in_ok-named.ensures (sym c.if-is_empty.ensures) c.in_ok-push-2.ensures.items c.in_ok-passing.ensures
