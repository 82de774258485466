use Rattle.std.proofs.Common.{◌++◌, ℕ, List, take, length, refl, sym, ap, ◌∙◌, append_assoc, arith}
use Rattle.std.proofs.lemmas.List.{length-append, take_at}
use Rattle.std.proofs.lemmas.Grind.{common_steps}
use Rattle.std.specs.List.{flat_map}
use Rattle.gw_codecs.specs.tags.Value.{value_encoding}
use Rattle.gw_objects.specs.internal.View.{array_view, item_view}
use Rattle.gw_objects.proofs.Elements.{encodings_more, encodings_within}
use Rattle.gw_objects.proofs.writing.write_array.Goals as goal

pub loop-place-preserved : goal.loop-place-preserved
loop-place-preserved c =
    let old = c.args.out.now.items in
    let values = array_view c.args.array.now in
    let place = c.loop-place.place in
    let value = item_view c.element.result in
    let before = flat_map value_encoding (take place values) in record {
      written = c.in_ok-write_item.ensures.ok ∙ ap (λ (t : List ℕ). t ++ value_encoding value) c.loop-place.invariant.written ∙ append_assoc old before (value_encoding value) ∙ ap (λ (t : List ℕ). old ++ t) (sym (encodings_more value_encoding values place value c.element.ensures));
      wider = omega (arith, c.loop-place.invariant.wider, c.in_ok-write_item.ensures.capacity);
    }

pub returns-in_err-write_item-clause-front : goal.returns-in_err-write_item-clause-front
returns-in_err-write_item-clause-front c =
    let old = c.args.out.now.items in
    let before = flat_map value_encoding (take c.loop-place.place (array_view c.args.array.now)) in
    ap (take (length old)) (c.in_err-write_item.ensures.err ∙ c.loop-place.invariant.written) ∙ take_at old before (length old) refl

pub returns-in_err-write_item-clause-room : goal.returns-in_err-write_item-clause-room
returns-in_err-write_item-clause-room c = λ enough.
    let values = array_view c.args.array.now in
    let place = c.loop-place.place in
    let stands = ap length c.loop-place.invariant.written ∙ length-append c.args.out.now.items (flat_map value_encoding (take place values)) in
    let within = encodings_within value_encoding values place (item_view c.element.result) c.element.ensures in
    let wider = c.loop-place.invariant.wider in
    let no_room = c.in_err-write_item.ensures.room in
    grind (arith, common_steps, enough, stands, within, wider, no_room)
