use Rattle.std.proofs.Common.{length, map}
use Rattle.gw_script.specs.Event.{event_view}
use Rattle.gw_core.proofs.HistoryLemmas.{RunProgress}
use Rattle.gw_core.proofs.whole_run.run.Given as goal

abbrev pub invariant-loop-rest : goal.invariant-loop-rest
invariant-loop-rest l = RunProgress l.fn.gateway l.gateway (map event_view l.fn.events) (map event_view l.rest) l.given.items

abbrev pub decreases-loop-rest : goal.decreases-loop-rest
decreases-loop-rest l = length l.rest
