use Rattle.std.proofs.Common.{take, length, refl, sym, subst, ◌+◌, arith}
use Rattle.std.proofs.lemmas.Option.{slice_get_read}
use Rattle.gw_objects.specs.internal.Index.{FindsNames}
use Rattle.gw_objects.proofs.Places.{all_objects, more_names}
use Rattle.gw_objects.proofs.index.places_by_name.Goals as goal

pub loop-place-preserved : goal.loop-place-preserved
loop-place-preserved c =
    let objects = c.args.objects.now in
    let place = c.loop-place.place in
    let object = c.index-objects-place.result in
    let is = slice_get_read objects (length objects) place object refl (omega (arith, c.loop-place-test.true)) c.index-objects-place.is in
    subst (λ places. FindsNames places (take (place + 1) objects)) (sym c.in_ok-note.ensures)
    (more_names objects place object is c.loop-place.places.entries c.in_ok-name.field-0 c.in_ok-name.ensures c.loop-place.invariant)

pub returns : goal.returns
returns c =
    let objects = c.args.objects.now in
    subst (FindsNames c.loop-place.places.entries) (all_objects objects c.loop-place.place (omega (arith, c.loop-place-test.false, c.loop-place.auto.place-end))) c.loop-place.invariant
