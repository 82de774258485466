-- Whether a frame is granted what it asks for, as the code answers it.
use Rattle.std.specs.Prelude.{Option, Some, None}
use Rattle.gw_relay.specs.declared.change.Change.{Change}
use Rattle.gw_relay.specs.declared.link.Grant.{Grant}
use Rattle.gw_relay.specs.declared.link.Grant.TheVariants.{Granted, Refused}

-- what changes if it is granted
abbrev pub granted_change : Grant → Option (Option Change)
granted_change (Granted change) = Some change
granted_change Refused = None
