-- The text of a saved state, line by line. It is ASCII; words have one space between them.
use Rattle.std.specs.Prelude.{ℕ, ◌+◌, List, [], ◌∷◌, ◌++◌, codes, Option, Some, None}
use Rattle.std.specs.Fmt.{decimal}
use Rattle.std.specs.List.{flat_map}
use Rattle.hex.specs.Hex.{encode_upper}
use Rattle.gw_addr.specs.declared.bip.BipAddr.{BipAddr}
use Rattle.gw_addr.specs.declared.entry.BdtEntry.{BdtEntry}
use Rattle.gw_addr.specs.Address.{text_of}
use Rattle.gw_addr.specs.Text.{four_text}
use Rattle.gw_tables.specs.declared.bdt_fdt.kept.KeptDevice.{KeptDevice}
use Rattle.gw_objects.specs.declared.value.PropertyValue.{PropertyValue}
use Rattle.gw_objects.specs.Table.{value_of}
use Rattle.gw_tables.specs.declared.routes.route.Route.{Route}
use Rattle.gw_state.specs.declared.counts.SavedCounts.{SavedCounts}
use Rattle.gw_state.specs.declared.port.SavedPort.{SavedPort}
use Rattle.gw_state.specs.Saved.{Saved, SavedObject}
use Rattle.gw_codecs.specs.tags.Object.{Object}
use Rattle.gw_codecs.specs.tags.Value.{value_encoding}

-- the first line, which has the version of the text
abbrev pub first_line : List ℕ
first_line = codes "bacgw state 1" ++ 10 ∷ []

-- `counts <since> <ticks> <denials>`
abbrev pub counts_line : SavedCounts → List ℕ
counts_line counts =
    codes "counts " ++ (decimal counts.since ++ 32 ∷ (decimal counts.ticks ++ 32 ∷ (decimal counts.denials ++ 10 ∷ [])))

-- `port <network> <address>`: the gateway's own address on it
abbrev pub port_line : ℕ → BipAddr → List ℕ
port_line network address = codes "port " ++ (decimal network ++ 32 ∷ (text_of address ++ 10 ∷ []))

-- `peer <address> <mask>` or `entry <address> <mask>`
abbrev pub entry_line : List ℕ → BdtEntry → List ℕ
entry_line word entry = word ++ (text_of entry.address ++ 32 ∷ (four_text entry.mask ++ 10 ∷ []))

abbrev pub peer_word : List ℕ
peer_word = codes "peer "

abbrev pub entry_word : List ℕ
entry_word = codes "entry "

-- `device <address> <time to live> <ticks left>`
abbrev pub device_line : KeptDevice → List ℕ
device_line device =
    codes "device " ++ (text_of device.address ++ 32 ∷ (decimal device.time_to_live ++ 32 ∷ (decimal device.left ++ 10 ∷ [])))

-- `route <network> <port> <next router>`: the number of one of the ports, from 1
abbrev pub route_line : ℕ × Route → List ℕ
route_line route =
    codes "route " ++ (decimal route.0 ++ 32 ∷ (decimal route.1.port ++ 32 ∷ (text_of route.1.next ++ 10 ∷ [])))

-- a value: the octets of its encoding in upper-case hexadecimal digits (clause 20.2)
abbrev pub value_text : PropertyValue → List ℕ
value_text value = encode_upper (value_encoding (value_of value))

-- `object <type> <instance> `
abbrev pub identifier_text : Object → List ℕ
identifier_text object = codes "object " ++ (decimal object.kind ++ 32 ∷ (decimal object.instance ++ 32 ∷ []))

-- `object <type> <instance> <configured default> <default>`
abbrev pub object_line : Object → PropertyValue → PropertyValue → List ℕ
object_line object configured default =
    identifier_text object ++ (value_text configured ++ 32 ∷ (value_text default ++ 10 ∷ []))

-- `slot <priority> <value>` if the slot isn't empty
abbrev pub slot_text : ℕ → Option PropertyValue → List ℕ
slot_text priority None = []
slot_text priority (Some value) = codes "slot " ++ (decimal priority ++ 32 ∷ (value_text value ++ 10 ∷ []))

-- slots, of which the first has this priority
unfoldable pub slots_text : ℕ → List (Option PropertyValue) → List ℕ
slots_text priority [] = []
slots_text priority (slot ∷ slots) = slot_text priority slot ++ slots_text (priority + 1) slots

-- a port, the peers that were configured, its table of them and its foreign devices
abbrev pub port_text : SavedPort → List ℕ
port_text port =
    port_line port.network port.address ++ (flat_map (entry_line peer_word) port.peers
    ++ (flat_map (entry_line entry_word) port.entries ++ flat_map device_line port.devices))

-- a value object, and its slots that aren't empty
abbrev pub object_text : SavedObject → List ℕ
object_text object =
    object_line object.object object.configured object.slots.default ++ slots_text 1 object.slots.slots

-- the last line
abbrev pub end_line : List ℕ
end_line = codes "end" ++ 10 ∷ []

-- the text of a state
abbrev pub state_text : Saved → List ℕ
state_text saved =
    first_line ++ (counts_line saved.counts ++ (flat_map port_text saved.ports ++ (flat_map route_line saved.routes
    ++ (flat_map object_text saved.objects ++ end_line))))
