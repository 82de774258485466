use Rattle.std.proofs.Common.{List, [], map, sym, ap, subst, ◌∙◌}
use Rattle.gw_configuration.specs.declared.object.Object.{Object}
use Rattle.gw_tables.specs.priority.Commandable.{no_command}
use Rattle.gw_objects.specs.History.{IsStateAfter}
use Rattle.gw_objects.specs.Objects.{default_of, defaults_of}
use Rattle.gw_objects.proofs.Histories.{start_states}
use Rattle.gw_objects.proofs.database.ObjectDb.from_config.Goals as goal

pub returns-clause-stands : goal.returns-clause-stands
returns-clause-stands c =
    let made = c.in_ok-states.ensures ∙ ap (λ (objects : List Object). map (λ object. no_command (default_of object.value)) objects) c.objects.ensures.objects in
    subst (IsStateAfter (defaults_of c.args.config.now) []) (sym made) (start_states (λ (object : Object). default_of object.value) c.args.config.now.objects)
