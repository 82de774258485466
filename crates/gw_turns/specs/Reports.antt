-- What is reported of serving: what was done so far, and what the tables hold.
use Rattle.std.specs.Prelude.{ℕ, zero, suc, ◌+◌, ◌-◌, ◌==◌, ◌≤◌, ◌&&◌, nat_le, Bool, if◌then◌else◌, List, [], ◌∷◌, ◌++◌, Option, Some, None}
use Rattle.std.specs.Prelude.{codes, decimal, length, sum_by}
use Rattle.gw_tables.specs.bdt_fdt.Peers.{peers}
use Rattle.gw_relay.specs.declared.port.PortState.{PortState}
use Rattle.gw_core.specs.State.{State}
use Rattle.gw_core.specs.declared.event.Counts.{Counts}
use Rattle.gw_turns.specs.declared.announcing.Announcing.{Announcing}
use Rattle.gw_addr.specs.Address.{text_of}
use Rattle.gw_turns.specs.Ports.{datagrams_at, sends_at}
use Rattle.gw_turns.specs.declared.ports.Health.{Health}
use Rattle.gw_turns.specs.declared.ports.Health.TheVariants.{Sound, Failing, Restored}
use Rattle.gw_turns.specs.declared.ports.PortSends.{PortSends}
use Rattle.gw_turns.specs.declared.ports.PortTally.{PortTally}
use Rattle.gw_turns.specs.declared.tally.Culprit.{Culprit}
use Rattle.gw_turns.specs.declared.tally.DropTally.{DropTally}
use Rattle.gw_turns.specs.declared.report.Report.{Report}
use Rattle.gw_turns.specs.declared.serving.Served.{Served}

-- how many foreign devices are registered at the ports
abbrev pub registrations : List PortState → ℕ
registrations ports = sum_by (λ state. length state.fdt.rows) ports

-- how many peers the ports have: the entries of their tables but the own ones
abbrev pub peer_count : List PortState → ℕ
peer_count ports = sum_by (λ state. length (peers state.port.address state.bdt)) ports

-- The counts of a gateway in this state didn't fall since it began with these, and each tick is an event that was taken.
pub record HasGoneOn (start : Counts) (w : State) (s : Served) : Type 0 where
  pub ticks : start.ticks ≤ w.ticks
  pub denials : start.denials ≤ w.denials
  pub taken : w.ticks ≤ start.ticks + s.taken

abbrev pub has_gone_on : Counts → State → Served → Bool
has_gone_on start w s =
    nat_le start.ticks w.ticks && (nat_le start.denials w.denials && nat_le w.ticks (start.ticks + s.taken))

-- What is reported in this state of a gateway that began with these counts, when so much was done. A
-- second is a tick that was taken, and a datagram any other event that was. The tally is of those that weren't passed on.
abbrev pub report_of : Counts → State → Served → DropTally → Report
report_of start w s tally = record {
  seconds = w.ticks - start.ticks;
  datagrams = s.taken - (w.ticks - start.ticks);
  memory_drops = s.memory_drops;
  denials = w.denials - start.denials;
  sends = s.sends;
  send_failures = s.send_failures;
  receive_failures = s.recv_failures;
  registrations = registrations w.relay.ports;
  peers = peer_count w.relay.ports;
  learned_routes = length w.relay.routes.learned;
  tally = tally;
  port_count = length w.relay.ports;
  ports = s.ports;
}

-- a field of a line: its name, as written before the number, and the number in decimal
abbrev pub field : List ℕ → ℕ → List ℕ
field name number = name ++ decimal number

-- in how many seconds how many datagrams were taken, events dropped for want of memory, and asks denied
abbrev pub events_text : Report → List ℕ
events_text r =
    field (codes "stats seconds=") r.seconds ++ field (codes " datagrams=") r.datagrams
    ++ field (codes " memory_drops=") r.memory_drops ++ field (codes " denials=") r.denials

-- how many sends succeeded and failed, and how many receives failed
abbrev pub calls_text : Report → List ℕ
calls_text r =
    field (codes " sends=") r.sends ++ field (codes " send_failures=") r.send_failures
    ++ field (codes " receive_failures=") r.receive_failures

-- what the tables hold then
abbrev pub tables_text : Report → List ℕ
tables_text r =
    field (codes " registrations=") r.registrations ++ field (codes " peers=") r.peers
    ++ field (codes " learned_routes=") r.learned_routes

-- how many datagrams the policy kept out, by the operation that it denied
abbrev pub refusals_text : DropTally → List ℕ
refusals_text t = field (codes " enter_refusals=") t.enter ++ field (codes " claim_refusals=") t.claim

-- how many datagrams were dropped before it was asked, by the reason
abbrev pub drops_text : DropTally → List ℕ
drops_text t =
    field (codes " malformed=") t.malformed ++ field (codes " own_network=") t.own_network
    ++ field (codes " no_peer=") t.no_peer

-- how many weren't passed on, and a line feed
abbrev pub tally_text : DropTally → List ℕ
tally_text t = refusals_text t ++ drops_text t ++ 10 ∷ []

-- the line of a report: its fields in this order
unfoldable pub report_line : Report → List ℕ
report_line r = events_text r ++ calls_text r ++ tables_text r ++ tally_text r.tally

-- ---- by port

-- what came to the port of this number and wasn't passed on, and what came of the sends on it
abbrev pub port_line : (number : ℕ) → PortTally → PortSends → List ℕ
port_line number t s =
    field (codes "stats port=") number ++ (field (codes " datagrams=") t.datagrams ++ (field (codes " dropped=") t.drops
    ++ (field (codes " sends=") s.sends ++ (field (codes " send_failures=") s.failures ++ codes "\n"))))

-- the lines of the first so many ports, in order
unfoldable pub port_lines : Report → (count : ℕ) → List ℕ
port_lines r zero = []
port_lines r (suc place) = port_lines r place ++ port_line (place + 1) (datagrams_at r.tally.ports place) (sends_at r.ports place)

-- those of the gateway's ports
abbrev pub ports_text : Report → List ℕ
ports_text r = port_lines r r.port_count

-- ---- whom the last datagrams came from that were dropped

-- of so many that were dropped for a reason
abbrev pub culprit_line : (reason : List ℕ) → (count : ℕ) → Culprit → List ℕ
culprit_line reason count c =
    field (codes "dropped: ") count ++ (reason ++ (text_of c.sender ++ (field (codes " on port ") c.port ++ codes "\n")))

abbrev pub culprit_text : (reason : List ℕ) → (count : ℕ) → Option Culprit → List ℕ
culprit_text reason count None = []
culprit_text reason count (Some c) = culprit_line reason count c

-- one that came in the last so many seconds, or whenever it did
abbrev pub fresh : (seconds : Option ℕ) → (now : ℕ) → Option Culprit → Option Culprit
fresh None now culprit = culprit
fresh (Some seconds) now None = None
fresh (Some seconds) now (Some c) = if nat_le (now - c.tick) seconds then Some c else None

-- by the reason
abbrev pub culprits_text : (seconds : Option ℕ) → (now : ℕ) → DropTally → List ℕ
culprits_text seconds now t =
    culprit_text (codes " malformed, last from ") t.malformed (fresh seconds now t.last.malformed)
    ++ (culprit_text (codes " of own network, last from ") t.own_network (fresh seconds now t.last.own_network)
    ++ culprit_text (codes " of no peer, last from ") t.no_peer (fresh seconds now t.last.no_peer))

-- ---- how the sends on each port go

abbrev pub failing_line : (number : ℕ) → List ℕ
failing_line number = field (codes "port ") number ++ codes ": sends fail\n"

abbrev pub restored_line : (number : ℕ) → List ℕ
restored_line number = field (codes "port ") number ++ codes ": sends succeed again\n"

-- How the sends on a port go, as far as that is reported: that the last one failed, if that was in the last so many seconds; and that they
-- succeed again, if they do so since then. Of all time: that the last one failed.
abbrev pub shown : (seconds : Option ℕ) → (now : ℕ) → Health → Health
shown seconds now Sound = Sound
shown None now (Failing last) = Failing last
shown (Some seconds) now (Failing last) = if nat_le (now - last) seconds then Failing last else Sound
shown None now (Restored since) = Sound
shown (Some seconds) now (Restored since) = if nat_le (now - since) seconds then Restored since else Sound

-- so it is reported of the port of this number
abbrev pub health_text : (number : ℕ) → Health → List ℕ
health_text number Sound = []
health_text number (Failing last) = failing_line number
health_text number (Restored since) = restored_line number

-- of the first so many ports, in order, by the ticks that were taken
unfoldable pub health_lines : (seconds : Option ℕ) → Served → (count : ℕ) → List ℕ
health_lines seconds s zero = []
health_lines seconds s (suc place) =
    health_lines seconds s place ++ health_text (place + 1) (shown seconds s.ticks (sends_at s.ports place).health)

-- of the ports of a gateway in this state
abbrev pub healths_text : (seconds : Option ℕ) → State → Served → List ℕ
healths_text seconds w s = health_lines seconds s (length w.relay.ports)

-- ---- announcements

-- how many of their sends succeeded and failed
abbrev pub announced_text : Announcing → List ℕ
announced_text a =
    field (codes "stats announcements=") a.sends ++ field (codes " announcement_failures=") a.send_failures

abbrev pub announcing_line : Announcing → List ℕ
announcing_line a = announced_text a ++ 10 ∷ []

-- the same, if any was tried
abbrev pub announcing_text : Announcing → List ℕ
announcing_text a = if (a.sends == 0) && (a.send_failures == 0) then [] else announcing_line a
