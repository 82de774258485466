use Rattle.std.proofs.Common.{◌≡◌, take}
use Rattle.gw_state.specs.Carried.{states_carried}
use Rattle.gw_state.proofs.states.states_of.Given as goal

abbrev pub invariant-loop-object : goal.invariant-loop-object
invariant-loop-object l = l.states.items ≡ states_carried (take l.object-index l.objects) l.saved
