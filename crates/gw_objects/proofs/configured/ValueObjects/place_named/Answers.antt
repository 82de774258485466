use Rattle.std.proofs.Common.{position, ap, ◌∙◌}
use Rattle.gw_objects.specs.Objects.{is_name}
use Rattle.gw_objects.proofs.Places.{position_within}
use Rattle.gw_objects.proofs.configured.ValueObjects.place_named.Goals as goal

pub returns-clause-place : goal.returns-clause-place
returns-clause-place c =
    c.copied.ensures ∙ c.get.ensures.value ∙ c.self.invariant.1.1 c.args.name.now ∙ ap (position (λ object. is_name c.args.name.now object.name)) c.self.view_is

pub returns-clause-within : goal.returns-clause-within
returns-clause-within c = position_within (λ object. is_name c.args.name.now object.name) c.args.self.now c.copied.result (returns-clause-place c)
