-- What is counted by port: the datagrams that came to it, and what came of the sends that were tried on it.
use Rattle.std.specs.Prelude.{ℕ, ◌+◌, ◌-◌, ◌^◌, min, Bool, if◌then◌else◌, List, Option, Some, None, replicate, slice_index_or, slice_set}
use Rattle.gw_addr.specs.declared.TheConstants.{MAX_PORTS}
use Rattle.gw_turns.specs.declared.ports.Health.{Health}
use Rattle.gw_turns.specs.declared.ports.Health.TheVariants.{Sound, Failing, Restored}
use Rattle.gw_turns.specs.declared.ports.PortSends.{PortSends}
use Rattle.gw_turns.specs.declared.ports.PortTally.{PortTally}
use Rattle.gw_turns.specs.declared.tally.Culprit.{Culprit}

-- the place of a port among all, by its number from 1; a number that no port has is counted at the last place
abbrev pub place_of : ℕ → ℕ
place_of port = min (port - 1) (MAX_PORTS - 1)

-- the sum of two counts, which doesn't pass the end of 64 bits
abbrev pub summed_to : ℕ → ℕ → ℕ
summed_to count more = min (count + more) (2 ^ 64 - 1)

-- ---- what came

abbrev pub no_datagrams : PortTally
no_datagrams = record { datagrams = 0; drops = 0 }

abbrev pub nothing_received : List PortTally
nothing_received = replicate MAX_PORTS no_datagrams

-- what came to the port at a place
abbrev pub datagrams_at : List PortTally → ℕ → PortTally
datagrams_at ports place = slice_index_or ports place no_datagrams

-- a port after one datagram more, which wasn't passed on for so many reasons
abbrev pub received : PortTally → (drops : ℕ) → PortTally
received p drops = record { datagrams = summed_to p.datagrams 1; drops = summed_to p.drops drops }

-- the ports after an event, by where it came from if it is a datagram
abbrev pub received_at : List PortTally → Option Culprit → (drops : ℕ) → List PortTally
received_at ports None drops = ports
received_at ports (Some c) drops = slice_set ports (place_of c.port) (received (datagrams_at ports (place_of c.port)) drops)

-- ---- what was sent

abbrev pub no_sends : PortSends
no_sends = record { sends = 0; failures = 0; health = Sound }

abbrev pub nothing_sent : List PortSends
nothing_sent = replicate MAX_PORTS no_sends

-- what came of the sends on the port at a place
abbrev pub sends_at : List PortSends → ℕ → PortSends
sends_at ports place = slice_index_or ports place no_sends

-- how the sends on a port go after one that succeeded when there were so many ticks: again, if the one before failed
abbrev pub restored : Health → (ticks : ℕ) → Health
restored Sound ticks = Sound
restored (Failing last) ticks = Restored ticks
restored (Restored since) ticks = Restored since

-- a port after one more that was tried when there were so many ticks, by whether it succeeded
abbrev pub sent : PortSends → (ticks : ℕ) → (success : Bool) → PortSends
sent p ticks success =
    if success
    then record { sends = summed_to p.sends 1; failures = p.failures; health = restored p.health ticks }
    else record { sends = p.sends; failures = summed_to p.failures 1; health = Failing ticks }

-- the ports after a try on the port of this number
abbrev pub sent_at : List PortSends → (port ticks : ℕ) → (success : Bool) → List PortSends
sent_at ports port ticks success = slice_set ports (place_of port) (sent (sends_at ports (place_of port)) ticks success)
