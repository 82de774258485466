-- Reading the text of a state line by line: the state that it is of, or at which line it fails and why.
use Rattle.std.specs.Prelude.{◌≡◌, ◌≢◌, ℕ, zero, suc, ◌+◌, ◌-◌, ◌^◌, ◌==◌, ◌&&◌, ◌||◌, not, nat_eq, nat_le, nat_lt, if◌then◌else◌, Bool}
use Rattle.std.specs.Prelude.{List, [], ◌∷◌, ◌++◌, codes, drop, get_or, length, take, Option, Some, None, Result, Ok, Err}
use Rattle.std.specs.List.{ends_with, list_any, starts_with}
use Rattle.gw_addr.specs.declared.entry.BdtEntry.{BdtEntry}
use Rattle.gw_addr.specs.Reading.{◌>>=◌}
use Rattle.gw_tables.specs.declared.bdt_fdt.kept.KeptDevice.{KeptDevice}
use Rattle.gw_tables.specs.bdt_fdt.Kept.{is_due, is_of_device}
use Rattle.gw_tables.specs.bdt_fdt.Peers.{is_of}
use Rattle.gw_configuration.specs.declared.object.ObjectKind.{ObjectKind}
use Rattle.gw_configuration.specs.Kinds.{kind_numbered}
use Rattle.gw_objects.specs.declared.value.PropertyValue.{PropertyValue}
use Rattle.gw_tables.specs.declared.routes.route.Route.{Route}
use Rattle.gw_state.specs.declared.counts.SavedCounts.{SavedCounts}
use Rattle.gw_state.specs.declared.port.SavedPort.{SavedPort}
use Rattle.gw_state.specs.Saved.{Saved, SavedObject, are_countable}
use Rattle.gw_codecs.specs.tags.Object.{Object}
use Rattle.gw_state_text.specs.declared.fault.FaultKind.{FaultKind}
use Rattle.gw_state_text.specs.declared.fault.FaultKind.TheVariants.{Version, Line, Range, Twice, TooMany, Cut, Memory}
use Rattle.gw_state_text.specs.declared.fault.StateFault.{StateFault}
use Rattle.gw_state_text.specs.declared.fault.Stop.{Stop}
use Rattle.gw_state_text.specs.Fit.{is_at, is_object, is_to}
use Rattle.gw_state_text.specs.Lines.{counts_at, device_at, entry_at, port_at, priority_at, route_at}
use Rattle.gw_state_text.specs.Place.{line_count}
use Rattle.gw_state_text.specs.Text.{end_line, entry_word, first_line, peer_word}
use Rattle.gw_state_text.specs.Values.{value_in}
use Rattle.gw_state_text.specs.Words.{after_word, parted_at, small_to}

-- ---- what a function answers

-- the same, seen by view, is what the reading function gives; a fault is its fault unless memory was refused
abbrev pub Reads : {X Y : Type 0} → (X → Y) → Result X FaultKind → Result Y FaultKind → Type 0
Reads view (Ok x) reading = reading ≡ Ok (view x)
Reads view (Err kind) reading = kind ≢ Memory → reading ≡ Err kind

abbrev pub ReadsLines : {X Y : Type 0} → (X → Y) → Result X Stop → Result Y Stop → Type 0
ReadsLines view (Ok x) reading = reading ≡ Ok (view x)
ReadsLines view (Err stop) reading = stop.kind ≢ Memory → reading ≡ Err stop

abbrev pub ReadsState : {X Y : Type 0} → (X → Y) → Result X StateFault → Result Y StateFault → Type 0
ReadsState view (Ok x) reading = reading ≡ Ok (view x)
ReadsState view (Err fault) reading = fault.kind ≢ Memory → reading ≡ Err fault

-- the state is read, unless memory was refused
abbrev pub IsReadAs : Saved → Result Saved StateFault → Type 0
IsReadAs saved (Ok read) = read ≡ saved
IsReadAs saved (Err fault) = fault.kind ≡ Memory

-- ---- lines

-- the first line of a text is faulty
abbrev pub stop_at : List ℕ → FaultKind → Stop
stop_at text kind = record { left = length text; kind = kind }

-- a line that isn't read is faulty
abbrev pub line_or : {A : Type 0} → FaultKind → List ℕ → Option A → Result A Stop
line_or kind text None = Err (stop_at text kind)
line_or kind text (Some x) = Ok x

-- so is one whose words have a fault
abbrev pub words_or : {A : Type 0} → List ℕ → Result A FaultKind → Result A Stop
words_or text (Ok x) = Ok x
words_or text (Err kind) = Err (stop_at text kind)

-- Items, each read after those before it, as long as their word follows. There can be so many more.
unfoldable pub all_at : {A : Type 0} → (List A → List ℕ → Result (A × List ℕ) Stop) → List ℕ → ℕ → List A → List ℕ
    → Result (List A × List ℕ) Stop
all_at read word zero before text = if starts_with nat_eq text word then Err (stop_at text TooMany) else Ok (before, text)
all_at read word (suc more) before text =
    if starts_with nat_eq text word then (read before text >>= λ x. all_at read word more (before ++ x.0 ∷ []) x.1)
    else Ok (before, text)

-- ---- the tables of a port, and the routes

-- an entry, whose address no entry before it has
unfoldable pub entry_after : List ℕ → List BdtEntry → List ℕ → Result (BdtEntry × List ℕ) Stop
entry_after word before text = do
  x ← line_or Line text (entry_at word text)
  if list_any (is_of x.0.address) before then Err (stop_at text Twice) else Ok x

-- a device with a tick to come and no more than it was granted, whose address no device before it has
unfoldable pub device_after : List KeptDevice → List ℕ → Result (KeptDevice × List ℕ) Stop
device_after before text = do
  x ← line_or Line text (device_at text)
  if not (is_due x.0) then Err (stop_at text Range)
      else (if list_any (is_of_device x.0.address) before then Err (stop_at text Twice) else Ok x)

-- a route by one of so many ports, to a network to which no route before it goes
unfoldable pub route_after : ℕ → List (ℕ × Route) → List ℕ → Result ((ℕ × Route) × List ℕ) Stop
route_after ports before text = do
  x ← line_or Line text (route_at text)
  if x.1.port == 0 || nat_lt ports x.1.port then Err (stop_at text Range)
      else (if list_any (is_to x.0) before then Err (stop_at text Twice) else Ok ((x.0, x.1), x.2))

-- a port with its tables, whose network and address together no port before it has
unfoldable pub port_after : List SavedPort → List ℕ → Result (SavedPort × List ℕ) Stop
port_after before text = do
  x ← line_or Line text (port_at text)
  new ← if list_any (is_at x.0 x.1) before then Err (stop_at text Twice) else Ok x
  peers ← all_at (entry_after peer_word) peer_word 64 [] new.2
  entries ← all_at (entry_after entry_word) entry_word 64 [] peers.1
  devices ← all_at device_after (codes "device ") 128 [] entries.1
  Ok (record { network = new.0; address = new.1; peers = peers.0; entries = entries.0; devices = devices.0 }, devices.1)

-- ---- objects

-- what the line of an object says
pub record ObjectLine : Type 0 where
  pub object : Object
  pub kind : ObjectKind
  pub configured : PropertyValue
  pub default : PropertyValue

abbrev pub word_or : {A : Type 0} → FaultKind → Option A → Result A FaultKind
word_or kind None = Err kind
word_or kind (Some x) = Ok x

-- an identifier has ten bits of type and 22 bits of instance
abbrev pub identifier : ℕ → ℕ → Result Object FaultKind
identifier kind instance =
    if nat_lt kind (2 ^ 10) && nat_lt instance (2 ^ 22) then Ok (record { kind = kind; instance = instance }) else Err Range

-- `object <type> <instance> `
unfoldable pub identifier_at : List ℕ → Result (Object × List ℕ) FaultKind
identifier_at text = do
  words ← word_or Line (after_word (codes "object ") text)
  kind ← word_or Line (small_to (2 ^ 16) 32 words)
  instance ← word_or Line (small_to (2 ^ 32) 32 kind.1)
  object ← identifier kind.0 instance.0
  Ok (object, instance.1)

-- a value of an object of this type, up to such a character
unfoldable pub value_to : ObjectKind → ℕ → List ℕ → Result (PropertyValue × List ℕ) FaultKind
value_to kind c text = do
  word ← word_or Line (parted_at c text)
  value ← value_in kind word.0
  Ok (value, word.1)

-- `object <type> <instance> <configured default> <default>`
unfoldable pub object_at : List ℕ → Result (ObjectLine × List ℕ) FaultKind
object_at text = do
  object ← identifier_at text
  kind ← word_or Range (kind_numbered object.0.kind)
  configured ← value_to kind 32 object.1
  default ← value_to kind 10 configured.1
  Ok (record { object = object.0; kind = kind; configured = configured.0; default = default.0 }, default.1)

-- the slot of this priority, if the text goes on with that of this priority: none can be that of priority 6 (clause 19.2.3)
abbrev pub slot_of : ObjectKind → ℕ → List ℕ → Option (ℕ × List ℕ) → Result (Option PropertyValue × List ℕ) FaultKind
slot_of kind priority text None = Ok (None, text)
slot_of kind priority text (Some named) =
    if named.0 == 6 then Err Range
    else (if not (named.0 == priority) then Ok (None, text)
    else (value_to kind 10 named.1 >>= λ x. Ok (Some x.0, x.1)))

unfoldable pub slot_at : ObjectKind → ℕ → List ℕ → Result (Option PropertyValue × List ℕ) FaultKind
slot_at kind priority text = slot_of kind priority text (priority_at text)

-- what is wrong with a slot of this priority after the last one: there is no such priority, or it came before, or it is
-- out of order
abbrev pub came_before : Option PropertyValue → FaultKind
came_before None = Line
came_before (Some value) = Twice

unfoldable pub slot_fault : List (Option PropertyValue) → ℕ → FaultKind
slot_fault slots priority =
    if priority == 0 || nat_lt 16 priority then Range else came_before (get_or slots (priority - 1) None)

-- after the last slot there is no slot
abbrev pub last_slot : List (Option PropertyValue) → List ℕ → Option (ℕ × List ℕ)
    → Result (List (Option PropertyValue) × List ℕ) Stop
last_slot slots text None = Ok (slots, text)
last_slot slots text (Some named) = Err (stop_at text (slot_fault slots named.0))

-- so many slots more, after these
unfoldable pub slots_after : ObjectKind → ℕ → List (Option PropertyValue) → List ℕ
    → Result (List (Option PropertyValue) × List ℕ) Stop
slots_after kind zero slots text = last_slot slots text (priority_at text)
slots_after kind (suc more) slots text = do
  x ← words_or text (slot_at kind (length slots + 1) text)
  slots_after kind more (slots ++ x.0 ∷ []) x.1

-- an object of a line and of slots
abbrev pub object_of : ObjectLine → List (Option PropertyValue) → SavedObject
object_of line slots = record {
  object = line.object;
  configured = line.configured;
  slots = record { slots = slots; default = line.default };
}

-- an object with its slots, whose identifier no object before it has
unfoldable pub object_after : List SavedObject → List ℕ → Result (SavedObject × List ℕ) Stop
object_after before text = do
  x ← words_or text (object_at text)
  new ← if list_any (is_object x.0.object) before then Err (stop_at text Twice) else Ok x
  slots ← slots_after new.0.kind 16 [] new.1
  Ok (object_of new.0 slots.0, slots.1)

-- ---- the text

-- nothing comes after the last line
abbrev pub at_end : {A : Type 0} → A → List ℕ → Result A Stop
at_end x text = do
  after ← line_or Line text (after_word end_line text)
  if length after == 0 then Ok x else Err (stop_at after Line)

-- the state that a text is of, or where reading stops
unfoldable pub lines_of : List ℕ → Result Saved Stop
lines_of text = do
  lines ← line_or Version text (after_word first_line text)
  read ← line_or Line lines (counts_at lines)
  counts ← if are_countable read.0 then Ok read else Err (stop_at lines Range)
  ports ← all_at port_after (codes "port ") 8 [] counts.1
  routes ← all_at (route_after (length ports.0)) (codes "route ") 512 [] ports.1
  objects ← all_at object_after (codes "object ") 256 [] routes.1
  at_end (record { ports = ports.0; routes = routes.0; objects = objects.0; counts = counts.0 }) objects.1

-- a line is whole if it has its line feed, or comes after the last
abbrev pub is_whole : List ℕ → List ℕ → Bool
is_whole front rest = ends_with nat_eq front (10 ∷ end_line) || list_any (λ c. c == 10) rest

-- a line that isn't whole is cut, unless memory was refused
abbrev pub kind_at : Bool → FaultKind → FaultKind
kind_at whole Memory = Memory
kind_at whole kind = if whole then kind else Cut

-- the fault of the line that begins before the last so many octets
abbrev pub fault_at : List ℕ → Stop → StateFault
fault_at text stop =
    let count = length text - stop.left in record {
      line = line_count (take count text) + 1;
      kind = kind_at (is_whole (take count text) (drop count text)) stop.kind;
    }

abbrev pub located : List ℕ → Result Saved Stop → Result Saved StateFault
located text (Ok saved) = Ok saved
located text (Err stop) = Err (fault_at text stop)

-- the state that a text is of, or the first line that can't be there and why
abbrev pub state_of : List ℕ → Result Saved StateFault
state_of text = located text (lines_of text)
