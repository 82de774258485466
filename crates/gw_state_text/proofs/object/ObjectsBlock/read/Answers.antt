use Rattle.gw_state_text.proofs.ObjectLemmas.{in_slots}
use Rattle.std.proofs.Common.{sym, rules}
use Rattle.gw_state_text.specs.internal.Objects.{line_view}
use Rattle.gw_state_text.proofs.StepLemmas.{object_missed, object_read_so, object_twice, slots_fail}
use Rattle.gw_state_text.proofs.object.ObjectsBlock.read.Goals as goal

pub returns-in-Err-slots_at-clause-stop : goal.returns-in-Err-slots_at-clause-stop
returns-in-Err-slots_at-clause-stop c = in_slots c.in-Ok.read.0 _ _ _ c.in-Ok.ensures.found c.in-Err-slots_at.ensures.stop

pub returns-in-Err-slots_at-clause-exact : goal.returns-in-Err-slots_at-clause-exact
returns-in-Err-slots_at-clause-exact c = λ other.
    slots_fail c.args.before.now c.args.text.now (line_view c.in-Ok.read.0) c.in-Ok.read.1.now c.in-Err-slots_at.stop c.in-Ok.ensures.exact
    (sym c.if-has_object.ensures) (c.in-Err-slots_at.ensures.exact other)
