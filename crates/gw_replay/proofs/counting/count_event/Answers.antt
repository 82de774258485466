use Rattle.std.proofs.Common.{ap}
use Rattle.gw_core.specs.History.{next}
use Rattle.gw_core.specs.State.{State}
use Rattle.gw_replay.proofs.counting.count_event.Goals as goal

pub returns-in-Ok-clause-rules : goal.returns-in-Ok-clause-rules
unfolding next
returns-in-Ok-clause-rules c = ap (λ (w : State). w.rules) c.in-Ok.ensures.moved
