use Rattle.gw_tables.proofs.priority_lemmas.History.{slot_at}
use Rattle.gw_tables.proofs.priority_lemmas.Last.{command_iff, empty_iff}
use Rattle.gw_tables.proofs.priority.laws.slots_after.Goals as goal

pub returns : goal.returns
returns g c = record { slots = slot_at; command = command_iff; empty = empty_iff }
