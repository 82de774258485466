-- What a configuration surely lacks, though all that it has may be meant, and the lines that say it. They follow the warnings of
-- `Warnings.antt`.
use Rattle.std.specs.Prelude.{ℕ, ◌+◌, ◌-◌, ◌*◌, ◌%◌, ◌^◌, ◌==◌, Bool, ◌&&◌, ◌||◌, not, is_some, if◌then◌else◌, List, [], ◌∷◌, ◌++◌, length}
use Rattle.std.specs.Prelude.{position, take, codes, decimal, Some}
use Rattle.std.specs.List.{list_all, list_any}
use Rattle.std.specs.Option.{option_map_or}
use Rattle.gw_addr.specs.Address.{text_of}
use Rattle.gw_addr.specs.declared.bip.BipAddr.{BipAddr}
use Rattle.gw_addr.specs.declared.entry.BdtEntry.{BdtEntry}
use Rattle.gw_configuration.specs.Configuration.{Configuration}
use Rattle.gw_configuration.specs.Duplicates.{key}
use Rattle.gw_configuration.specs.Subnet.{Subnet, keys_of, subnet_holds, subnet_text}
use Rattle.gw_configuration.specs.declared.port.Port.{Port}
use Rattle.gw_configuration.specs.declared.route.Route.{Route}
use Rattle.gw_rules.specs.Ask.{Ask, ask_of}
use Rattle.gw_rules.specs.Bounds.{is_within}
use Rattle.gw_rules.specs.Operation.{operation_number}
use Rattle.gw_rules.specs.Range.{holds}
use Rattle.gw_rules.specs.Rule.{each_field, ranges_of}
use Rattle.gw_rules.specs.RuleList.{allows}
use Rattle.gw_rules.specs.declared.field.FieldName.{FieldName}
use Rattle.gw_rules.specs.declared.field.FieldName.TheVariants as fields
use Rattle.gw_rules.specs.declared.operation.Operation.{Operation}
use Rattle.gw_rules.specs.declared.operation.Operation.TheVariants as operations
use Rattle.gw_rules.specs.declared.range.Range.{Range}
use Rattle.gw_rules.specs.declared.rule.Rule.{Rule}
use Rattle.gw_ask_sets.specs.AskText.{address_of}
use Rattle.gw_ask_sets.specs.shapes.Meeting.{overlaps}
use Rattle.gw_script.specs.Order.{in_order}
use Rattle.gw_policy_review.specs.Places.{is_derived}
use Rattle.gw_policy_review.specs.permissions.Words.{rule_words}
use Rattle.gw_policy_review.specs.warnings.Subnet.{is_beside}

-- ---- the stations of a port

abbrev pub has_stations : Port → Bool
has_stations port = not (length port.stations == 0)

-- a subnet of its stations has the address
abbrev pub is_station : Port → BipAddr → Bool
is_station port address = list_any (λ subnet. subnet_holds subnet address) port.stations

-- the first address of a subnet
abbrev pub first_address : Subnet → BipAddr
first_address subnet = address_of (keys_of subnet).low

-- a subnet has the port's own address, or begins in a subnet on which the port may be
abbrev pub is_near : Port → Subnet → Bool
is_near port subnet = subnet_holds subnet port.address || is_beside port.address port.broadcast (first_address subnet)

-- so it does, or it has a peer of the port
abbrev pub is_accounted : Port → Subnet → Bool
is_accounted port subnet = is_near port subnet || list_any (λ peer. subnet_holds subnet peer.address) port.peers

-- All stations are elsewhere, and neither a peer nor another broadcast manager is beside the port to pass on to them what it
-- broadcasts.
abbrev pub is_apart : Port → Bool
is_apart port =
    has_stations port && (not (is_some port.bbmd) && not (list_any (is_accounted port) port.stations))

abbrev pub apart_line : ℕ → Port → List ℕ
apart_line number port =
    codes "warning: port " ++ (decimal number ++ (codes ": address: " ++ (text_of port.address
    ++ codes " is on no subnet of the port's stations\n")))

abbrev pub apart_lines : ℕ → Port → List ℕ
apart_lines number port = if is_apart port then apart_line number port else []

-- Another port of the same UDP port has addresses of a subnet among its stations. Two of different UDP ports may be on one subnet.
abbrev pub shares_with : Port → Subnet → Port → Bool
shares_with port subnet other =
    (port.address.udp == other.address.udp) && list_any (λ its. overlaps (keys_of subnet) (keys_of its)) other.stations

abbrev pub overlap_words : Subnet → ℕ → List ℕ
overlap_words subnet other =
    subnet_text subnet ++ (codes " overlaps with those of port " ++ (decimal other ++ codes "\n"))

abbrev pub overlap_line : ℕ → ℕ → Subnet → ℕ → List ℕ
overlap_line number item subnet other =
    codes "warning: port " ++ (decimal number ++ (codes ": stations: item "
    ++ (decimal item ++ (codes ": " ++ overlap_words subnet other))))

-- for each subnet of a port's stations, with the first port before it of which that is so
abbrev pub overlap_lines : List Port → ℕ → Port → ℕ → Subnet → List ℕ
overlap_lines ports number port item subnet =
    option_map_or (λ place. overlap_line number item subnet (place + 1))
    (position (shares_with port subnet) (take (number - 1) ports)) []

-- ---- stations that nobody is

-- the keys of the addresses that no host has, from the first to the last of each block (RFC 6890): this network, the loopback of a
-- host, and groups with what is reserved above them
abbrev pub hostless : List Range
hostless =
    record { low = 0; high = 2 ^ 40 - 1 } ∷ record { low = 127 * 2 ^ 40; high = 2 ^ 47 - 1 }
    ∷ record { low = 224 * 2 ^ 40; high = 2 ^ 48 - 1 } ∷ []

-- a subnet of stations has such addresses
abbrev pub is_hostless : Subnet → Bool
is_hostless subnet = list_any (overlaps (keys_of subnet)) hostless

abbrev pub hostless_words : Subnet → List ℕ
hostless_words subnet = subnet_text subnet ++ codes " has addresses of no host: some of 0.0.0.0/8, 127.0.0.0/8 or 224.0.0.0/3\n"

abbrev pub hostless_line : ℕ → ℕ → Subnet → List ℕ
hostless_line number item subnet =
    codes "warning: port " ++ (decimal number ++ (codes ": stations: item " ++ (decimal item ++ (codes ": " ++ hostless_words subnet))))

abbrev pub hostless_lines : ℕ → ℕ → Subnet → List ℕ
hostless_lines number item subnet = if is_hostless subnet then hostless_line number item subnet else []

-- ---- peers that aren't heard

-- the ask of a message of a peer itself that enters by the port of this number
abbrev pub enter_ask : ℕ → Port → BipAddr → Ask
enter_ask number port peer = record (ask_of operations.Enter) {
  port = Some number;
  source_network = Some port.network;
  source_key = Some (key peer);
  sender = Some (key peer);
}

-- A peer is no station of a port that names some. Each subnet of these is the port's or another peer's, so nobody beside the peer is
-- one. A port may list itself as a peer.
abbrev pub is_left_out : Port → BipAddr → Bool
is_left_out port peer =
    has_stations port && (not (key peer == key port.address)
    && (not (is_station port peer) && list_all (is_accounted port) port.stations))

-- and no rule lets it enter
abbrev pub is_unheard : List Rule → ℕ → Port → BipAddr → Bool
is_unheard rules number port peer = is_left_out port peer && not (allows rules (enter_ask number port peer))

abbrev pub unheard_line : ℕ → ℕ → BipAddr → List ℕ
unheard_line number item peer =
    codes "warning: port " ++ (decimal number ++ (codes ": peer " ++ (decimal item ++ (codes ": address: " ++ (text_of peer
    ++ codes " is no station of the port, nor is a subnet for it, and no rule lets it enter: what it passes on is a stranger's\n")))))

abbrev pub unheard_lines : List Rule → ℕ → Port → ℕ → BdtEntry → List ℕ
unheard_lines rules number port item peer =
    if is_unheard rules number port peer.address then unheard_line number item peer.address else []

-- ---- the place of a rule

-- `warning: rule 7 "panel-writes" (table 5, line 60): `
abbrev pub front_words : Configuration → (lines : List ℕ) → ℕ → Rule → List ℕ
front_words c lines number rule = codes "warning: " ++ (rule_words c lines number rule.name ++ codes ": ")

-- ---- rules of reads and writes that nobody passes on

-- two lists of ranges have a number in common; a list without ranges has each
abbrev pub share : List Range → List Range → Bool
share one other = (length one == 0) || ((length other == 0) || list_any (λ range. list_any (overlaps range) other) one)

-- ranges admit this number
abbrev pub admits_number : ℕ → List Range → Bool
admits_number number ranges = (length ranges == 0) || list_any (holds number) ranges

-- ranges of operations admit that a message is passed on or distributed
abbrev pub admits_passage : List Range → Bool
admits_passage ranges =
    admits_number (operation_number operations.Route) ranges || admits_number (operation_number operations.Cast) ranges

-- or that it is passed on, or what it names is read or written there
abbrev pub passes_to : List Range → Bool
passes_to ranges =
    admits_number (operation_number operations.Route) ranges || (admits_number (operation_number operations.Read) ranges
    || admits_number (operation_number operations.Write) ranges)

-- A rule may match, as to a field, the ask to pass on a message with this service of which another rule matches what it names: such an
-- ask has neither object nor priority.
abbrev pub carries_field : ℕ → Rule → Rule → FieldName → Bool
carries_field service rule carrier fields.Operation = admits_passage (ranges_of fields.Operation carrier)
carries_field service rule carrier fields.Service = admits_number service (ranges_of fields.Service carrier)
carries_field service rule carrier fields.ObjectType = length (ranges_of fields.ObjectType carrier) == 0
carries_field service rule carrier fields.Instance = length (ranges_of fields.Instance carrier) == 0
carries_field service rule carrier fields.Property = length (ranges_of fields.Property carrier) == 0
carries_field service rule carrier fields.Priority = length (ranges_of fields.Priority carrier) == 0
carries_field service rule carrier field = share (ranges_of field rule) (ranges_of field carrier)

abbrev pub may_carry : ℕ → Rule → Rule → Bool
may_carry service rule carrier = carrier.allow && each_field (carries_field service rule carrier)

-- the rule may match such messages, and one of these rules may pass them on
abbrev pub is_carried : List Rule → Rule → ℕ → Bool
is_carried rules rule service = admits_number service rule.ranges.service && list_any (may_carry service rule) rules

-- it names an operation, and destinations without the device's network
abbrev pub asks_beyond : ℕ → Operation → Rule → Bool
asks_beyond device operation rule =
    list_any (holds (operation_number operation)) rule.ranges.operation
    && (not (length rule.ranges.destination_network == 0) && not (list_any (holds device) rule.ranges.destination_network))

-- a rule that allows a read or a write in another network than the device's, of which no message with one of these services may pass
abbrev pub is_unsent : Configuration → Rule → Operation → (services : List ℕ) → Bool
is_unsent c rule operation services =
    rule.allow && (asks_beyond c.device.network operation rule && not (list_any (is_carried c.rules rule) services))

abbrev pub unsent_words : Operation → List ℕ
unsent_words operations.Write = codes "operation: no rule lets the writes that it allows pass (route, service 15)"
unsent_words _ = codes "operation: no rule lets the reads that it allows pass (route, service 12 or 14)"

abbrev pub unsent_line : Configuration → (lines : List ℕ) → ℕ → Rule → Operation → List ℕ
unsent_line c lines number rule operation =
    front_words c lines number rule ++ (unsent_words operation ++ codes ", so none is sent\n")

abbrev pub unsent_of : Configuration → (lines : List ℕ) → ℕ → Rule → Operation → (services : List ℕ) → List ℕ
unsent_of c lines number rule operation services =
    if is_unsent c rule operation services then unsent_line c lines number rule operation else []

-- by ReadProperty and ReadPropertyMultiple, and by WriteProperty (clause 21)
abbrev pub unsent_lines : Configuration → (lines : List ℕ) → ℕ → Rule → List ℕ
unsent_lines c lines number rule =
    unsent_of c lines number rule operations.Read (12 ∷ 14 ∷ []) ++ unsent_of c lines number rule operations.Write (15 ∷ [])

-- ---- rules that name stations of a port in a network behind a router

-- A range has stations of a port alone: their keys are those of a subnet of its stations, and where it is one address, that has the
-- port's UDP port.
abbrev pub is_of_port : Range → Port → Bool
is_of_port range port =
    (not (range.low == range.high) || (range.low % 65536 == port.address.udp))
    && list_any (λ subnet. is_within (keys_of subnet) range) port.stations

abbrev pub is_of_some_port : List Port → Range → Bool
is_of_some_port ports range = list_any (is_of_port range) ports

-- stations are named, and all are such ones
abbrev pub names_near_stations : List Port → (stations : List Range) → Bool
names_near_stations ports stations = not (length stations == 0) && list_all (is_of_some_port ports) stations

-- a range is one network, that of a route
abbrev pub is_behind : List Route → Range → Bool
is_behind routes range = (range.low == range.high) && list_any (λ route. route.network == range.low) routes

abbrev pub behind_line : Configuration → (lines : List ℕ) → ℕ → Rule → ℕ → ℕ → List ℕ
behind_line c lines number rule item network =
    front_words c lines number rule ++ (codes "destination: range " ++ (decimal item ++ (codes ": network " ++ (decimal network
    ++ codes " lies behind a router, and each station that the rule names is one of a port\n"))))

abbrev pub behind_lines : Configuration → (lines : List ℕ) → ℕ → Rule → ℕ → Range → List ℕ
behind_lines c lines number rule item range =
    if names_near_stations c.ports rule.ranges.station && is_behind c.routes range
    then behind_line c lines number rule item range.low else []

-- of each range of its destinations, if the table is the rule's own
abbrev pub behinds_lines : Configuration → (lines : List ℕ) → ℕ → Rule → List ℕ
behinds_lines c lines number rule =
    if is_derived c.tables number then [] else in_order (behind_lines c lines number rule) 1 rule.ranges.destination_network

-- ---- all of them

abbrev pub port_oversights : Configuration → ℕ → Port → List ℕ
port_oversights c number port =
    apart_lines number port
    ++ (in_order (overlap_lines c.ports number port) 1 port.stations
    ++ (in_order (hostless_lines number) 1 port.stations ++ in_order (unheard_lines c.rules number port) 1 port.peers))

abbrev pub rule_oversights : Configuration → (lines : List ℕ) → ℕ → Rule → List ℕ
rule_oversights c lines number rule = unsent_lines c lines number rule ++ behinds_lines c lines number rule

-- of the ports in their order, and then of the rules; the tables of the rules begin on these lines of the text
abbrev pub oversights_text : Configuration → (lines : List ℕ) → List ℕ
oversights_text c lines = in_order (port_oversights c) 1 c.ports ++ in_order (rule_oversights c lines) 1 c.rules
