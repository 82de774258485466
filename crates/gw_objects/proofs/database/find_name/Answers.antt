use Rattle.std.proofs.Common.{◌≡◌, Some, length, option_map, option_and_then, refl, sym, ap, ◌∙◌, arith}
use Rattle.std.specs.Prelude.{slice_get}
use Rattle.std.proofs.lemmas.Option.{slice_get_read}
use Rattle.gw_objects.specs.Objects.{is_name, object_id_of}
use Rattle.gw_objects.proofs.Places.{named_at}
use Rattle.gw_objects.proofs.database.find_name.Goals as goal

pub returns-in-Some : goal.returns-in-Some
returns-in-Some c =
    let name = c.args.name.now in
    let objects = c.args.configured.now.objects in
    let place = c.in-Some.place in
    let object = c.index-as_slice-place.result in
    let other = ap (is_name name) (sym (c.as_bytes.ensures.value ∙ c.as_str.ensures.text)) ∙ sym c.eq.ensures ∙ c.if-eq.false in
    let same = ap length c.as_slice.ensures.objects in
    let is = slice_get_read c.as_slice.result.now (length c.as_slice.result.now) place object refl (omega (arith, same, c.in-Some.ensures.within)) c.index-as_slice-place.is in
    let there : slice_get objects place ≡ Some object = ap (λ os. slice_get os place) (sym c.as_slice.ensures.objects) ∙ is in
    ap (λ id. Some id) c.id.ensures
    ∙ sym (ap (option_map object_id_of) (ap (option_and_then (slice_get objects)) c.in-Some.is ∙ there))
    ∙ named_at c.args.configured.now name other c.place_named.result c.place_named.ensures.place

pub returns-in-None : goal.returns-in-None
returns-in-None c =
    let name = c.args.name.now in
    let objects = c.args.configured.now.objects in
    let other = ap (is_name name) (sym (c.as_bytes.ensures.value ∙ c.as_str.ensures.text)) ∙ sym c.eq.ensures ∙ c.if-eq.false in
    sym (ap (λ at. option_map object_id_of (option_and_then (slice_get objects) at)) c.in-None.is)
    ∙ named_at c.args.configured.now name other c.place_named.result c.place_named.ensures.place
