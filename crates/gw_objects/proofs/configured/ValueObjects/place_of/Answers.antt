use Rattle.std.proofs.Common.{position, ap, ◌∙◌}
use Rattle.gw_codecs.specs.tags.Object.{object_view}
use Rattle.gw_objects.specs.Objects.{object_id_of, same}
use Rattle.gw_objects.proofs.Places.{position_within}
use Rattle.gw_objects.proofs.configured.ValueObjects.place_of.Goals as goal

pub returns-clause-place : goal.returns-clause-place
returns-clause-place c =
    c.copied.ensures ∙ c.get.ensures.value ∙ c.self.invariant.1.0 c.args.id ∙ ap (position (λ object. same (object_view c.args.id) (object_id_of object))) c.self.view_is

pub returns-clause-within : goal.returns-clause-within
returns-clause-within c = position_within (λ object. same (object_view c.args.id) (object_id_of object)) c.args.self.now c.copied.result (returns-clause-place c)
