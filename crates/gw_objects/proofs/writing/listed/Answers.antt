use Rattle.std.proofs.Common.{◌≡◌, ◌∷◌, ◌-◌, Some, length, map, refl, sym, ap, subst, ◌∙◌, arith}
use Rattle.std.specs.Prelude.{slice_get}
use Rattle.std.proofs.lemmas.List.{length-map}
use Rattle.std.proofs.lemmas.Option.{slice_get_read}
use Rattle.gw_codecs.specs.tags.Object.{object_view}
use Rattle.gw_codecs.specs.tags.Value.{object_id}
use Rattle.gw_objects.specs.Objects.{object_id_of}
use Rattle.gw_objects.proofs.Elements.{listed}
use Rattle.gw_objects.proofs.writing.listed.Goals as goal

pub returns-else-place-eq0 : goal.returns-else-place-eq0
returns-else-place-eq0 c =
    let objects = c.as_slice.result.now in
    let device = object_id (object_view c.args.device) in
    let item = c.index-as_slice-place.result in
    let long = length-map (map object_id_of c.args.objects.now) object_id ∙ length-map c.args.objects.now object_id_of in
    let same = ap length c.as_slice.ensures.objects in
    let is : slice_get objects (c.args.place - 1) ≡ Some item = slice_get_read objects (length objects) (c.args.place - 1) item refl (omega (arith, c.requires, c.if-place-eq0.false, long, same)) c.index-as_slice-place.is in
    let there : slice_get (device ∷ map object_id (map object_id_of objects)) c.args.place ≡ Some (object_id (object_id_of item)) = listed object_id object_id_of device objects c.args.place item (omega (arith, c.if-place-eq0.false)) is in
    subst (λ os. slice_get (device ∷ map object_id (map object_id_of os)) c.args.place ≡ Some (object_id (object_view c.id.result))) c.as_slice.ensures.objects (there ∙ ap (λ id. Some (object_id id)) (sym c.id.ensures))
