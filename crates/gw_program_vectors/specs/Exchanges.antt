-- What was asked and answered in memory.
use Rattle.std.specs.Prelude.{Option, Some, None, map}
use Rattle.std.specs.Global.{Vec}
use Rattle.gw_system.specs.Requests.{Asking, Exchange, answered, asked_by, known, silent}
use Rattle.gw_program_vectors.specs.declared.mem_requests.Exchange.{Exchange as Kept}
use Rattle.gw_program_vectors.specs.declared.mem_requests.Exchange.TheVariants as kept

-- an exchange, without where its text lies in memory
abbrev pub exchange_of : Kept → Exchange
exchange_of (kept.Looked found) = asked_by found
exchange_of (kept.Answered text) = answered text.items

-- all of them, until memory ended
abbrev pub asking_of : Option (Vec Kept) → Asking
asking_of None = silent
asking_of (Some exchanges) = known (map exchange_of exchanges.items)
