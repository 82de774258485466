use Rattle.std.proofs.Common.{◌∙◌, ◌<◌, Some, ap, arith, length, sym}
use Rattle.std.proofs.lemmas.Option.{slice_get-get_or}
use Rattle.gw_policy_review.proofs.comparison_lemmas.PartsLaw.{listed_more}
use Rattle.gw_policy_review.proofs.comparison.parts.push_ports.Goals as goal

pub loop-place-preserved : goal.loop-place-preserved
loop-place-preserved c =
    let old = c.args.old.now in
    let new = c.args.new.now in
    let place = c.loop-place.place in
    let a = c.index-old-place.result in
    let b = c.index-new-place.result in
    let test = c.loop-place-test.true in
    let end = c.min-place-end.ensures in
    let first : place < length old = omega (arith, test, end) in
    let second : place < length new = omega (arith, test, end) in
    listed_more old new c.args.out.now.items c.loop-place.out.items c.push_port_parts.new.out.items place a b c.in_ok-same.same
    (slice_get-get_or old place a first ∙ ap Some (sym c.index-old-place.is)) (slice_get-get_or new place b second ∙ ap Some (sym c.index-new-place.is))
    c.in_ok-same.ensures c.in_ok-push_port_parts.ensures c.loop-place.invariant
