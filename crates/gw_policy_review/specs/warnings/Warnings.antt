-- What a configuration has that is accepted and can't be meant, and the lines that say it.
use Rattle.std.specs.Prelude.{ℕ, ◌+◌, ◌-◌, ◌==◌, Bool, true, false, ◌&&◌, ◌||◌, not, nat_le, nat_lt, if◌then◌else◌, List, [], ◌∷◌, ◌++◌}
use Rattle.std.specs.Prelude.{length, codes, decimal, Option, Some, None, position, slice_get}
use Rattle.std.specs.Option.{option_map_or}
use Rattle.gw_addr.specs.Address.{text_of}
use Rattle.gw_script.specs.Order.{in_order}
use Rattle.gw_addr.specs.Text.{four_text}
use Rattle.gw_addr.specs.declared.bip.BipAddr.{BipAddr}
use Rattle.gw_addr.specs.declared.entry.BdtEntry.{BdtEntry}
use Rattle.gw_ask_sets.specs.AskText.{address_of}
use Rattle.gw_configuration.specs.Configuration.{Configuration}
use Rattle.gw_configuration.specs.Duplicates.{key}
use Rattle.gw_configuration.specs.Located.{numbered}
use Rattle.gw_configuration.specs.declared.device.Device.{Device}
use Rattle.gw_configuration.specs.declared.port.Port.{Port}
use Rattle.gw_configuration.specs.declared.route.Route.{Route}
use Rattle.gw_configuration.specs.declared.set.Set.{Set}
use Rattle.gw_rules.specs.Ask.{Ask, ask_of}
use Rattle.gw_rules.specs.Format.{names_stations}
use Rattle.gw_rules.specs.RuleList.{allows, first}
use Rattle.gw_rules.specs.Service.{service_number}
use Rattle.gw_rules.specs.declared.format.Format.{Format}
use Rattle.gw_rules.specs.declared.operation.Operation.TheVariants.{Register}
use Rattle.gw_rules.specs.declared.range.Range.{Range}
use Rattle.gw_rules.specs.declared.rule.Rule.{Rule}
use Rattle.gw_rules.specs.declared.service.Service.TheVariants.{BvllFunction}
use Rattle.gw_policy_review.specs.warnings.Subnet.{has_holes, is_elsewhere, is_limited, is_multicast, is_off_subnet, number_of}
use Rattle.gw_policy_review.specs.declared.warnings.spot.Spot.{Spot}
use Rattle.gw_policy_review.specs.declared.warnings.spot.Spot.TheVariants.{Address, Broadcast, PeerAddress, PeerMask, Next}
use Rattle.gw_policy_review.specs.declared.warnings.oddity.Oddity.{Oddity}
use Rattle.gw_policy_review.specs.declared.warnings.oddity.Oddity.TheVariants.{ZeroPort, LowPort, Multicast, OtherPort, OffSubnet, Limited}
use Rattle.gw_policy_review.specs.declared.warnings.oddity.Oddity.TheVariants.{IsBroadcast, IsOwn, Elsewhere}

-- ---- words

-- a key of a port, a peer of a port, or a route, by their positions
abbrev pub spot_words : Spot → List ℕ
spot_words (Address port) = numbered (codes "port ") port ++ codes ": address: "
spot_words (Broadcast port) = numbered (codes "port ") port ++ codes ": broadcast: "
spot_words (PeerAddress port peer) =
    numbered (codes "port ") port ++ numbered (codes ": peer ") peer ++ codes ": address: "
spot_words (PeerMask port peer) = numbered (codes "port ") port ++ numbered (codes ": peer ") peer ++ codes ": mask: "
spot_words (Next route) = numbered (codes "route ") route ++ codes ": next: "

-- what can't be meant of an address
abbrev pub oddity_words : Oddity → List ℕ
oddity_words ZeroPort = codes " has UDP port 0"
oddity_words LowPort = codes " has a UDP port below 1024, which is another service's"
oddity_words Multicast = codes " is a multicast address"
oddity_words (OtherPort own) = codes " has another UDP port than " ++ text_of own
oddity_words (OffSubnet own) = codes " is the broadcast address of no subnet of " ++ text_of own
oddity_words Limited = codes " broadcasts on no network in particular"
oddity_words (IsBroadcast port) = numbered (codes " is the broadcast address of port ") port
oddity_words (IsOwn port) = numbered (codes " is the own address of port ") port
oddity_words (Elsewhere port) = numbered (codes " is off the subnet of port ") port

-- the line of an address
abbrev pub line : Spot → BipAddr → Oddity → List ℕ
line spot address oddity =
    codes "warning: " ++ spot_words spot ++ text_of address ++ oddity_words oddity ++ 10 ∷ []

-- that line where the test holds
abbrev pub line_where : Bool → Spot → BipAddr → Oddity → List ℕ
line_where holds spot address oddity = if holds then line spot address oddity else []

-- the line of a mask with holes
abbrev pub holes_line : Spot → List ℕ → List ℕ
holes_line spot mask =
    codes "warning: " ++ spot_words spot ++ four_text mask ++ codes " has holes: a mask is ones and then zeros"
    ++ 10 ∷ []

-- that line where it has some
abbrev pub mask_line : Spot → List ℕ → List ℕ
mask_line spot mask = if has_holes mask then holes_line spot mask else []

-- ---- the device

-- of a revision that the device doesn't meet
abbrev pub revision_line : ℕ → List ℕ
revision_line revision =
    codes "warning: device: revision: " ++ decimal revision
    ++ codes " is above 13: each object needs Property_List from 14 on, and the device a Network Port object from 17 on" ++ 10 ∷ []

-- The device meets Protocol_Revision 13 at most: none of its objects has Property_List (clause 12.1.1.4.1), and it has no
-- Network Port object (clause 12.56).
abbrev pub device_lines : Device → List ℕ
device_lines device = if nat_le device.revision 13 then [] else revision_line device.revision

-- ---- ports and their peers

-- UDP port 0
abbrev pub has_zero_port : BipAddr → Bool
has_zero_port address = address.udp == 0

-- a UDP port from 1 to 1023: those of the system's services (RFC 6335, 6)
abbrev pub has_low_port : BipAddr → Bool
has_low_port address = nat_lt 0 address.udp && nat_lt address.udp 1024

-- of an address at which no BACnet/IP device is
abbrev pub unusual_lines : Spot → BipAddr → List ℕ
unusual_lines spot address =
    line_where (has_low_port address) spot address LowPort ++ line_where (is_multicast address) spot address Multicast

-- the position of the port whose own address it is; no two ports have one
abbrev pub owner : List Port → BipAddr → Option ℕ
owner ports address = position (λ port. key port.address == key address) ports

-- a position, unless it is this one
abbrev pub other_than : ℕ → Option ℕ → Option ℕ
other_than place None = None
other_than place (Some other) = if other == place then None else Some other

-- the line of an address that is the own one of a port, where it is
abbrev pub owned_line : Spot → BipAddr → Option ℕ → List ℕ
owned_line spot address found = option_map_or (λ port. line spot address (IsOwn port)) found []

-- of a port's own address
abbrev pub own_lines : ℕ → Port → List ℕ
own_lines place port =
    line_where (has_zero_port port.address) (Address place) port.address ZeroPort
    ++ unusual_lines (Address place) port.address

-- of its broadcast address
abbrev pub broadcast_lines : ℕ → Port → List ℕ
broadcast_lines place port =
    line_where (is_multicast port.broadcast) (Broadcast place) port.broadcast Multicast
    ++ line_where (not (port.broadcast.udp == port.address.udp)) (Broadcast place) port.broadcast
    (OtherPort port.address)
    ++ line_where (is_off_subnet port.address port.broadcast) (Broadcast place) port.broadcast (OffSubnet port.address)
    ++ line_where (is_limited port.broadcast) (Broadcast place) port.broadcast Limited

-- of a peer
abbrev pub peer_lines : List Port → ℕ → Port → ℕ → BdtEntry → List ℕ
peer_lines ports place port index peer =
    unusual_lines (PeerAddress place index) peer.address
    ++ line_where (key peer.address == key port.broadcast) (PeerAddress place index) peer.address (IsBroadcast place)
    ++ owned_line (PeerAddress place index) peer.address (other_than place (owner ports peer.address))
    ++ mask_line (PeerMask place index) peer.mask

-- of a port, and then of its peers
abbrev pub port_lines : List Port → ℕ → Port → List ℕ
port_lines ports place port =
    own_lines place port ++ broadcast_lines place port ++ in_order (peer_lines ports place port) 0 port.peers

-- ---- routes

-- of a route to this router by the port at this position
abbrev pub way_lines : List Port → ℕ → BipAddr → ℕ → Port → List ℕ
way_lines ports index next place port =
    unusual_lines (Next index) next
    ++ owned_line (Next index) next (owner ports next)
    ++ line_where (key next == key port.broadcast) (Next index) next (IsBroadcast place)
    ++ line_where (is_elsewhere port.address port.broadcast next) (Next index) next (Elsewhere place)

-- where there is a port at the position
abbrev pub next_lines : List Port → ℕ → BipAddr → ℕ → List ℕ
next_lines ports index next place = option_map_or (way_lines ports index next place) (slice_get ports place) []

-- of a route
abbrev pub route_lines : List Port → ℕ → Route → List ℕ
route_lines ports index route = next_lines ports index route.next (route.port - 1)

-- ---- sets

-- the name of a set or a rule
abbrev pub name_words : List ℕ → List ℕ
name_words name = codes " \"" ++ name ++ codes "\": "

-- of a set that no rule names
abbrev pub set_line : ℕ → List ℕ → List ℕ
set_line index name =
    numbered (codes "warning: set ") index ++ name_words name ++ codes "no rule names it" ++ 10 ∷ []

abbrev pub set_lines : ℕ → Set → List ℕ
set_lines index set = if set.used then [] else set_line index set.name

-- ---- rules

-- Between two addresses of one UDP port lie all ports of the addresses between theirs, and of theirs only some.
abbrev pub is_cut : BipAddr → BipAddr → Bool
is_cut low high = (low.udp == high.udp) && not (number_of low.ip == number_of high.ip)

-- Ranges are counted. In formats 1 and 2 each is an item as it is written; in format 3 an item may have several.
abbrev pub range_word : Format → List ℕ
range_word format = if names_stations format then codes ": range " else codes ": item "

-- a range of a rule's field, by their positions and the name of the rule
abbrev pub item_words : Format → ℕ → List ℕ → List ℕ → ℕ → List ℕ
item_words format index name field item =
    numbered (codes "warning: rule ") index ++ name_words name ++ field ++ numbered (range_word format) item ++ codes ": "

-- two addresses as a range has them
unfoldable pub ends_words : BipAddr → BipAddr → List ℕ
ends_words low high = codes "[\"" ++ text_of low ++ codes "\", \"" ++ text_of high ++ codes "\"]"

-- the address with another UDP port
abbrev pub with_udp : ℕ → BipAddr → BipAddr
with_udp udp address = record address { udp = udp }

-- of a range of addresses that is cut: what it holds, and the range with every UDP port
abbrev pub cut_line : Format → ℕ → List ℕ → List ℕ → ℕ → BipAddr → BipAddr → List ℕ
cut_line format index name field item low high =
    item_words format index name field item ++ ends_words low high
    ++ codes " holds every UDP port of the addresses between and some of those at its ends; with every UDP port it is "
    ++ ends_words (with_udp 0 low) (with_udp 65535 high) ++ 10 ∷ []

abbrev pub cut_lines : Format → ℕ → List ℕ → List ℕ → ℕ → Range → List ℕ
cut_lines format index name field item range =
    let low = address_of range.low in
    let high = address_of range.high in
    if is_cut low high then cut_line format index name field item low high else []

-- a number of the range is none of a port, of so many
abbrev pub is_missing : ℕ → Range → Bool
is_missing ports range = (range.low == 0) || nat_lt ports range.high

-- a number, or a list of two
abbrev pub range_words : Range → List ℕ
range_words range =
    if range.low == range.high then decimal range.low
    else codes "[" ++ decimal range.low ++ codes ", " ++ decimal range.high ++ codes "]"

-- of a range of ports that names one that isn't there
abbrev pub missing_line : ℕ → Format → ℕ → List ℕ → List ℕ → ℕ → Range → List ℕ
missing_line ports format index name field item range =
    item_words format index name field item ++ range_words range
    ++ codes " names a port that isn't there; the last is " ++ decimal ports ++ 10 ∷ []

abbrev pub missing_lines : ℕ → Format → ℕ → List ℕ → List ℕ → ℕ → Range → List ℕ
missing_lines ports format index name field item range =
    if is_missing ports range then missing_line ports format index name field item range else []

-- of a rule: its ports, and its addresses
abbrev pub rule_lines : Format → ℕ → ℕ → Rule → List ℕ
rule_lines format ports index rule =
    in_order (missing_lines ports format index rule.name (codes "port")) 0 rule.ranges.port
    ++ in_order (cut_lines format index rule.name (codes "source")) 0 rule.ranges.source_key
    ++ in_order (cut_lines format index rule.name (codes "sender")) 0 rule.ranges.sender
    ++ in_order (cut_lines format index rule.name (codes "station")) 0 rule.ranges.station

-- of no rules
abbrev pub none_line : List ℕ
none_line = codes "warning: there is no rule, so every ask is denied" ++ 10 ∷ []

abbrev pub none_lines : List Rule → List ℕ
none_lines rules = if length rules == 0 then none_line else []

-- what is said of an audited rule, by whether it allows
abbrev pub audit_words : Bool → List ℕ
audit_words true = codes "audit: run --audit writes what it allows"
audit_words false = codes "audit: what a rule denies is in the log, never in an audit"

-- how a line on it begins: it is a warning if the rule denies
abbrev pub audit_front : Bool → List ℕ
audit_front true = codes "rule "
audit_front false = codes "warning: rule "

abbrev pub audit_line : ℕ → Rule → List ℕ
audit_line index rule =
    numbered (audit_front rule.allow) index ++ name_words rule.name ++ audit_words rule.allow ++ 10 ∷ []

-- whether the rule at a position is audited
abbrev pub is_audited : List Bool → ℕ → Bool
is_audited audits index = option_map_or (λ audit. audit) (slice_get audits index) false

-- of each audited rule
abbrev pub audit_lines : List Bool → ℕ → Rule → List ℕ
audit_lines audits index rule = if is_audited audits index then audit_line index rule else []

-- ---- peers that may register

-- the ask of a peer that registers as a foreign device at the port of this position (Annex J.5.2)
abbrev pub register_ask : Format → ℕ → Port → BipAddr → Ask
register_ask format place port peer = record (ask_of Register) {
  port = Some (place + 1);
  source_network = Some port.network;
  source_key = Some (key peer);
  service = Some (service_number (BvllFunction 5));
  sender = if names_stations format then Some (key peer) else None;
}

-- the number of the rule by which an ask is allowed, if it is
abbrev pub allowing : List Rule → Ask → Option ℕ
allowing rules ask = if allows rules ask then first rules ask else None

-- of a peer that may register by the rule of this number
abbrev pub register_line : ℕ → ℕ → BipAddr → ℕ → List ℕ
register_line place index peer number =
    codes "warning: " ++ spot_words (PeerAddress place index) ++ text_of peer ++ codes " may register by rule "
    ++ decimal number ++ codes ": two that register at each other pass a broadcast on without end" ++ 10 ∷ []

-- A port may list itself as a peer: no line reports that.
abbrev pub register_lines : Format → List Rule → ℕ → Port → ℕ → BipAddr → List ℕ
register_lines format rules place port index peer =
    if key peer == key port.address then []
    else option_map_or (register_line place index peer) (allowing rules (register_ask format place port peer)) []

abbrev pub registering_lines : Format → List Rule → ℕ → Port → ℕ → BdtEntry → List ℕ
registering_lines format rules place port index peer = register_lines format rules place port index peer.address

-- of the peers of a port
abbrev pub peers_lines : Format → List Rule → ℕ → Port → List ℕ
peers_lines format rules place port = in_order (registering_lines format rules place port) 0 port.peers

-- ---- the whole

-- the rules in their order, and the peers whom they let register
abbrev pub policy_lines : Configuration → List ℕ
policy_lines c =
    none_lines c.rules
    ++ in_order (rule_lines c.format (length c.ports)) 0 c.rules
    ++ in_order (audit_lines c.audits) 0 c.rules
    ++ in_order (peers_lines c.format c.rules) 0 c.ports

-- the device, the ports with their peers, the routes and the sets, each in its order, and then the policy
abbrev pub warnings_text : Configuration → List ℕ
warnings_text c =
    device_lines c.device
    ++ in_order (port_lines c.ports) 0 c.ports
    ++ in_order (route_lines c.ports) 0 c.routes
    ++ in_order set_lines 0 c.sets
    ++ policy_lines c
