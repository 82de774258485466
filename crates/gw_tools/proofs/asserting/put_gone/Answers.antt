use Rattle.std.proofs.Common.{◌≡◌, ◌++◌, subst}
use Rattle.gw_configuration.specs.declared.assertion.Assertion.{Assertion}
use Rattle.gw_tools.specs.Asserting.{gone_text}
use Rattle.gw_ask_sets.proofs.shapes_lemmas.Listing.{flat_end, flat_step}
use Rattle.gw_tools.proofs.asserting.put_gone.Goals as goal

pub loop-assertion-preserved : goal.loop-assertion-preserved
loop-assertion-preserved c =
    let new = c.args.new.now in
    let grown = subst (λ (one : Assertion). c.put_gone_of.new.out.items ≡ c.loop-assertion.out.items ++ gone_text new one) c.assertion-item.is
    c.in_ok-put_gone_of.ensures in
    flat_step (gone_text new) c.args.old.now c.loop-assertion.assertion-index c.assertion-item.result c.args.out.now.items
    c.loop-assertion.out.items c.put_gone_of.new.out.items c.loop-assertion-test.true c.loop-assertion.invariant grown

pub returns : goal.returns
returns c =
    flat_end (gone_text c.args.new.now) c.args.old.now c.loop-assertion.assertion-index c.args.out.now.items _ c.loop-assertion-test.false
    c.loop-assertion.invariant
