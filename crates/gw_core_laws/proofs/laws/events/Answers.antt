use Rattle.gw_core_laws.proofs.LogLemmas.{ticks_only_count, nothing_asked_is_logged, denied_asks_are_logged, denials_have_their_tick, denied_reads_are_refused, denied_writes_are_refused}
use Rattle.gw_core_laws.proofs.NothingLemmas.{nothing_asked_is_written, nothing_asked_is_changed, dropped_needs_no_memory}
use Rattle.gw_core_laws.proofs.TrafficLemmas.{allowed_traffic_is_sent, denied_broadcasts_are_kept}
use Rattle.gw_core_laws.proofs.laws.events.Goals as goal

pub returns-clause-ticks : goal.returns-clause-ticks
returns-clause-ticks c = ticks_only_count

pub returns-clause-silent : goal.returns-clause-silent
returns-clause-silent c = nothing_asked_is_logged

pub returns-clause-log : goal.returns-clause-log
returns-clause-log c = denied_asks_are_logged

pub returns-clause-moments : goal.returns-clause-moments
returns-clause-moments c = denials_have_their_tick

pub returns-clause-refused : goal.returns-clause-refused
returns-clause-refused c = denied_reads_are_refused

pub returns-clause-unwritten : goal.returns-clause-unwritten
returns-clause-unwritten c = denied_writes_are_refused

pub returns-clause-unasked : goal.returns-clause-unasked
returns-clause-unasked c = nothing_asked_is_written

pub returns-clause-unchanged : goal.returns-clause-unchanged
returns-clause-unchanged c = nothing_asked_is_changed

pub returns-clause-dropped : goal.returns-clause-dropped
returns-clause-dropped c = dropped_needs_no_memory

pub returns-clause-traffic : goal.returns-clause-traffic
returns-clause-traffic c = allowed_traffic_is_sent

pub returns-clause-kept : goal.returns-clause-kept
returns-clause-kept c = denied_broadcasts_are_kept
