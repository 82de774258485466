-- What a gateway of a configuration takes over of a saved state, in words.
use Rattle.std.specs.Prelude.{ℕ, ◌==◌, Bool, true, false, not, nat_le, ◌&&◌, if◌then◌else◌, List, [], ◌∷◌, ◌++◌, codes, find, count_by}
use Rattle.std.specs.Prelude.{is_some, Option, Some, None}
use Rattle.std.specs.Fmt.{decimal, signed_decimal}
use Rattle.std.specs.List.{flat_map}
use Rattle.std.specs.Option.{option_map_or}
use Rattle.gw_addr.specs.Address.{text_of}
use Rattle.gw_addr.specs.Station.{two_digits}
use Rattle.gw_configuration.specs.Configuration.{Configuration}
use Rattle.gw_codecs.specs.names.Names.{object_type_name}
use Rattle.gw_objects.specs.declared.value.PropertyValue.{PropertyValue}
use Rattle.gw_objects.specs.declared.value.PropertyValue.TheVariants.{Binary, State, Text, Integer, PositiveInteger}
use Rattle.gw_state.specs.Saved.{Saved}
use Rattle.gw_state.specs.declared.counts.SavedCounts.{SavedCounts}
use Rattle.gw_state_words.specs.declared.takeover.finding.Absence.{Absence}
use Rattle.gw_state_words.specs.declared.takeover.finding.Absence.TheVariants.{NotConfigured, Twice}
use Rattle.gw_state_words.specs.declared.takeover.finding.TakeoverFinding.{TakeoverFinding}
use Rattle.gw_state_words.specs.declared.takeover.finding.TakeoverFinding.TheVariants.{Port, NewPort, LostPort, Route, Value, NewObject}
use Rattle.gw_state_words.specs.declared.takeover.finding.TakeoverFinding.TheVariants.{LostObject}
use Rattle.gw_state_words.specs.declared.takeover.finding.HeldPlace.{HeldPlace}
use Rattle.gw_state_words.specs.declared.takeover.finding.HeldPlace.TheVariants.{Slot, Default}
use Rattle.gw_state_words.specs.declared.takeover.finding.Loss.{Loss}
use Rattle.gw_state_words.specs.declared.takeover.finding.Loss.TheVariants as losses
use Rattle.gw_state_words.specs.declared.takeover.finding.ObjectName.{ObjectName}
use Rattle.gw_state_words.specs.declared.takeover.finding.PortName.{PortName}
use Rattle.gw_state_words.specs.declared.takeover.finding.RouteFate.{RouteFate}
use Rattle.gw_state_words.specs.declared.takeover.finding.RouteFate.TheVariants as routes
use Rattle.gw_state_words.specs.declared.takeover.finding.RouteFinding.{RouteFinding}
use Rattle.gw_state_words.specs.declared.takeover.finding.Sizes.{Sizes}
use Rattle.gw_state_words.specs.declared.takeover.finding.TableFate.{TableFate}
use Rattle.gw_state_words.specs.declared.takeover.finding.TableFate.TheVariants as tables
use Rattle.gw_state_words.specs.declared.takeover.finding.ValueFate.{ValueFate}
use Rattle.gw_state_words.specs.declared.takeover.finding.ValueFate.TheVariants as values
use Rattle.gw_state_words.specs.declared.takeover.finding.ValueFinding.{ValueFinding}
use Rattle.gw_state_words.specs.takeover.Findings.{TakeOver, findings}
use Rattle.gw_state_words.specs.takeover.Losses.{are_empty, loss_of}

-- ---- numbers, texts and values

-- a number of things, by the word for one of them and the word for any other number
abbrev pub counted : ℕ → List ℕ → List ℕ → List ℕ
counted number one many = decimal number ++ (if number == 1 then one else many)

-- an octet that is printed as it is: of printable ASCII, but no quote and no backslash
abbrev pub is_plain : ℕ → Bool
is_plain octet = nat_le 32 octet && (nat_le octet 126 && (not (octet == 34) && not (octet == 92)))

-- any other octet is printed as `\x` and its two hexadecimal digits
abbrev pub shown : ℕ → List ℕ
shown octet = if is_plain octet then octet ∷ [] else codes "\\x" ++ two_digits octet

abbrev pub active_words : Bool → List ℕ
active_words active = if active then codes "active" else codes "inactive"

abbrev pub quoted : List ℕ → List ℕ
quoted octets = codes "\"" ++ flat_map shown octets ++ codes "\""

abbrev pub value_words : PropertyValue → List ℕ
value_words (Binary active) = active_words active
value_words (State number) = decimal number
value_words (Text octets) = quoted octets
value_words (Integer number) = signed_decimal number
value_words (PositiveInteger number) = decimal number

-- ---- ports

-- `network 1, 192.168.1.1:47808`
abbrev pub port_words : PortName → List ℕ
port_words port = codes "network " ++ decimal port.network ++ codes ", " ++ text_of port.address

abbrev pub numbered_words : ℕ → PortName → List ℕ
numbered_words number port = codes "port " ++ decimal number ++ codes ", " ++ port_words port

abbrev pub peers_words : Sizes → List ℕ
peers_words sizes = codes "table of " ++ counted sizes.peers (codes " peer") (codes " peers")

abbrev pub devices_words : ℕ → List ℕ
devices_words devices = counted devices (codes " foreign device") (codes " foreign devices")

abbrev pub tables_words : Sizes → List ℕ
tables_words sizes = peers_words sizes ++ codes " and " ++ devices_words sizes.devices

-- a table of peers that is dropped, and what is taken over beside it
abbrev pub other_words : Sizes → List ℕ
other_words sizes = codes "other peers are configured: " ++ peers_words sizes

abbrev pub beside_words : ℕ → List ℕ
beside_words devices = codes " dropped, " ++ devices_words devices

abbrev pub other_manager_words : List ℕ
other_manager_words = codes "another broadcast manager is configured"

-- what is dropped where another broadcast manager is configured, if anything is
abbrev pub unmanaged_words : Sizes → List ℕ
unmanaged_words sizes = if are_empty sizes then [] else codes ": " ++ tables_words sizes ++ codes " dropped"

abbrev pub taken_over_words : List ℕ
taken_over_words = codes " taken over"

abbrev pub table_words : TableFate → Sizes → List ℕ
table_words tables.AsConfigured sizes =
    codes "peers as configured, " ++ devices_words sizes.devices ++ taken_over_words
table_words tables.TakenOver sizes = tables_words sizes ++ taken_over_words
table_words tables.OtherPeers sizes = other_words sizes ++ beside_words sizes.devices ++ taken_over_words
table_words tables.OtherManager sizes = other_manager_words ++ unmanaged_words sizes

abbrev pub absence_words : Absence → List ℕ
absence_words NotConfigured = codes "not configured"
absence_words Twice = codes "twice in the state"

-- ---- routes

-- the number that the port has now
abbrev pub by_words : Option ℕ → List ℕ
by_words None = []
by_words (Some port) = codes " by port " ++ decimal port

abbrev pub way_words : RouteFinding → List ℕ
way_words route =
    decimal route.network ++ by_words route.port ++ codes ", next router " ++ text_of route.next

-- why a route isn't taken over
abbrev pub refusal_words : RouteFate → List ℕ
refusal_words routes.TakenOver = []
refusal_words routes.NoPort = codes "its port is not configured"
refusal_words routes.Own = codes "the network is one of the gateway's own"
refusal_words routes.Configured = codes "a route to it is configured"
refusal_words routes.Replaced = codes "a later route of the state is taken over"
refusal_words routes.Full = codes "512 other networks have a route"

abbrev pub route_words : RouteFate → List ℕ
route_words routes.TakenOver = codes "taken over"
route_words fate = refusal_words fate ++ codes ": dropped"

-- ---- objects

-- `19,1`
abbrev pub identifier_words : ObjectName → List ℕ
identifier_words object = decimal object.kind ++ codes "," ++ decimal object.instance

-- a space and the standard's name of the type, if it has one
abbrev pub type_words : Option (List ℕ) → List ℕ
type_words None = []
type_words (Some name) = codes " " ++ name

-- `object 19,1 multi-state-value`
abbrev pub object_words : ObjectName → List ℕ
object_words object = codes "object " ++ identifier_words object ++ type_words (object_type_name object.kind)

-- why a value isn't taken over
abbrev pub reason_words : ValueFate → List ℕ
reason_words values.TakenOver = []
reason_words values.OutOfRange = codes " is out of range"
reason_words values.OtherDefault = codes ": another default is configured"

abbrev pub ending_words : ValueFate → List ℕ
ending_words values.TakenOver = codes ": taken over"
ending_words values.OutOfRange = codes ": dropped"
ending_words values.OtherDefault = codes ": dropped"

abbrev pub verdict_words : ValueFate → List ℕ
verdict_words fate = reason_words fate ++ ending_words fate

abbrev pub held_words : HeldPlace → List ℕ
held_words (Slot priority) = codes ", priority " ++ decimal priority ++ codes ": "
held_words Default = codes ", default: "

abbrev pub written_words : ValueFinding → List ℕ
written_words value =
    object_words value.object ++ held_words value.held ++ value_words value.value ++ verdict_words value.fate

abbrev pub default_words : Bool → List ℕ
default_words default = if default then codes " and its default dropped" else codes " dropped"

abbrev pub slots_words : ℕ → Bool → List ℕ
slots_words slots default = counted slots (codes " slot") (codes " slots") ++ default_words default

-- ---- lines

abbrev pub new_words : List ℕ
new_words = codes ": not in the state: begins anew"

abbrev pub port_line_words : ℕ → PortName → Sizes → TableFate → List ℕ
port_line_words number port sizes table =
    numbered_words number port ++ codes ": " ++ table_words table sizes

abbrev pub lost_port_words : PortName → Sizes → Absence → List ℕ
lost_port_words port sizes absence =
    codes "port of " ++ port_words port ++ codes ": " ++ absence_words absence ++ codes ": " ++ tables_words sizes
    ++ codes " dropped"

abbrev pub lost_object_words : ObjectName → ℕ → Bool → Absence → List ℕ
lost_object_words object slots default absence =
    object_words object ++ codes ": " ++ absence_words absence ++ codes ": " ++ slots_words slots default

abbrev pub finding_words : TakeoverFinding → List ℕ
finding_words (Port number port sizes table) = port_line_words number port sizes table
finding_words (NewPort number port) = numbered_words number port ++ new_words
finding_words (LostPort port sizes absence) = lost_port_words port sizes absence
finding_words (Route route) = codes "route to " ++ way_words route ++ codes ": " ++ route_words route.fate
finding_words (Value value) = written_words value
finding_words (NewObject object) = object_words object ++ new_words
finding_words (LostObject object slots default absence) = lost_object_words object slots default absence

abbrev pub line : TakeoverFinding → List ℕ
line finding = finding_words finding ++ codes "\n"

abbrev pub counts_line : SavedCounts → List ℕ
counts_line counts =
    codes "state: after " ++ counted counts.ticks (codes " tick") (codes " ticks") ++ codes " and at most "
    ++ counted counts.denials (codes " denial") (codes " denials") ++ codes "\n"

-- what a state holds, and what of it is taken over
abbrev pub state_words : Configuration → Saved → List ℕ
state_words c s = counts_line s.counts ++ flat_map line (findings c s)

-- ---- what is dropped

abbrev pub dropped_line : TakeoverFinding → List ℕ
dropped_line finding = if is_some (loss_of finding) then codes "state: " ++ line finding else []

abbrev pub dropped_words : Configuration → Saved → List ℕ
dropped_words c s = flat_map dropped_line (findings c s)

-- ---- at a reload

abbrev pub same_loss : Loss → Loss → Bool
same_loss losses.Port losses.Port = true
same_loss losses.Tables losses.Tables = true
same_loss losses.Table losses.Table = true
same_loss losses.Route losses.Route = true
same_loss losses.Object losses.Object = true
same_loss losses.Slot losses.Slot = true
same_loss losses.Default losses.Default = true
same_loss _ _ = false

abbrev pub is_loss : Loss → TakeoverFinding → Bool
is_loss loss finding = option_map_or (same_loss loss) (loss_of finding) false

abbrev pub one_word : Loss → List ℕ
one_word losses.Port = codes " port"
one_word losses.Tables = codes " port's tables"
one_word losses.Table = codes " table of peers"
one_word losses.Route = codes " route"
one_word losses.Object = codes " object"
one_word losses.Slot = codes " slot"
one_word losses.Default = codes " default"

abbrev pub many_word : Loss → List ℕ
many_word losses.Port = codes " ports"
many_word losses.Tables = codes " ports' tables"
many_word losses.Table = codes " tables of peers"
many_word losses.Route = codes " routes"
many_word losses.Object = codes " objects"
many_word losses.Slot = codes " slots"
many_word losses.Default = codes " defaults"

abbrev pub short_held_words : HeldPlace → List ℕ
short_held_words (Slot priority) = codes " at " ++ decimal priority ++ codes ": "
short_held_words Default = codes ", default: "

abbrev pub short_value_words : ValueFinding → List ℕ
short_value_words value =
    identifier_words value.object ++ short_held_words value.held ++ value_words value.value ++ reason_words value.fate

-- why the tables of a port aren't taken over as they were saved
abbrev pub table_reason_words : TableFate → List ℕ
table_reason_words tables.OtherManager = other_manager_words
table_reason_words _ = codes "other peers are configured"

-- what is dropped, in short, with its reason
abbrev pub short_words : TakeoverFinding → List ℕ
short_words (Port number port sizes table) =
    numbered_words number port ++ codes ": " ++ table_reason_words table
short_words (LostPort port sizes absence) = port_words port ++ codes ": " ++ absence_words absence
short_words (Route route) = codes "to " ++ decimal route.network ++ codes ": " ++ refusal_words route.fate
short_words (Value value) = short_value_words value
short_words (LostObject object slots default absence) =
    identifier_words object ++ codes ": " ++ absence_words absence
short_words (NewPort number port) = []
short_words (NewObject object) = []

-- how many things of a kind are dropped, and the first of them
abbrev pub loss_words : List TakeoverFinding → Loss → List ℕ
loss_words findings loss =
    option_map_or
    (λ first.
    codes "; " ++ counted (count_by (is_loss loss) findings) (one_word loss) (many_word loss) ++ codes " dropped: "
    ++ short_words first)
    (find (is_loss loss) findings) []

abbrev pub kinds : List Loss
kinds = losses.Port ∷ losses.Tables ∷ losses.Table ∷ losses.Route ∷ losses.Object ∷ losses.Slot ∷ losses.Default ∷ []

abbrev pub kept_words : TakeOver → List ℕ
kept_words t =
    devices_words t.devices ++ codes ", " ++ counted t.routes (codes " route") (codes " routes") ++ codes " kept"

abbrev pub take_over_words : TakeOver → List ℕ
take_over_words t = kept_words t ++ flat_map (loss_words t.findings) kinds
