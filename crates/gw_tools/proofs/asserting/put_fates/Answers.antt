use Rattle.std.proofs.Common.{length, rules, ◌≡◌, ◌<◌, ◌≤◌, ◌+◌, [], subst}
use Rattle.std.proofs.lemmas.List.{drop_all}
use Rattle.gw_configuration.specs.declared.assertion.Assertion.{Assertion}
use Rattle.gw_tools.specs.Asserting.{IsFateText, TellsFates}
use Rattle.gw_tools.proofs.AssertingLemmas.{tells_all, tells_more, tells_none}
use Rattle.gw_tools.proofs.asserting.put_fates.Goals as goal

pub loop-place-init : goal.loop-place-init
loop-place-init c = tells_none c.args.old.now c.args.new.now c.args.out.now.items

pub loop-place-preserved : goal.loop-place-preserved
loop-place-preserved c =
    let new = c.args.new.now in
    let place = c.loop-place.place in
    let within : place < length new = search rules in
    let grown = subst (λ (one : Assertion). TellsFates (IsFateText c.args.old.now one) c.loop-place.out.items c.put_fate_of.new.out.items)
    c.index-new-place.is c.in_ok-put_fate_of.ensures in
    tells_more c.args.old.now new place c.index-new-place.result c.args.out.now.items c.loop-place.out.items c.put_fate_of.new.out.items within
    c.loop-place.invariant grown

pub returns : goal.returns
returns c =
    let new = c.args.new.now in
    let ends : length new ≤ c.loop-place.place = search rules in
    tells_all c.args.old.now new c.loop-place.place c.args.out.now.items c.loop-place.out.items (drop_all c.loop-place.place new ends)
    c.loop-place.invariant
