-- Who may do what under a configuration: the lines that `bacgwctl explain` has of it. In format 3 they are about its ports, its
-- networks, what rules let others do, its objects and its rules' notes; in formats 1 and 2 about its objects alone.
use Rattle.std.specs.Prelude.{◌≡◌, ℕ, ◌-◌, ◌==◌, Bool, true, false, ◌&&◌, not, if◌then◌else◌, List, [], ◌∷◌, ◌++◌, length, slice_get}
use Rattle.std.specs.Prelude.{codes, decimal, Option, Some, None}
use Rattle.std.specs.List.{flat_map, list_any}
use Rattle.std.specs.Option.{option_map_or}
use Rattle.gw_addr.specs.Address.{text_of}
use Rattle.gw_addr.specs.declared.bip.BipAddr.{BipAddr}
use Rattle.gw_configuration.specs.Configuration.{Configuration}
use Rattle.gw_configuration.specs.Kinds.{type_number}
use Rattle.gw_configuration.specs.Shown.{shown}
use Rattle.gw_configuration.specs.Subnet.{Subnet, keys_of, subnet_text}
use Rattle.gw_configuration.specs.declared.device.Device.{Device}
use Rattle.gw_configuration.specs.declared.object.Object.{Object}
use Rattle.gw_configuration.specs.declared.port.Port.{Port}
use Rattle.gw_configuration.specs.declared.route.Route.{Route}
use Rattle.gw_rules.specs.Format.{names_stations}
use Rattle.gw_rules.specs.Hides.{hides_from_network}
use Rattle.gw_rules.specs.Range.{holds}
use Rattle.gw_rules.specs.declared.field.FieldName.TheVariants as fields
use Rattle.gw_rules.specs.declared.rule.Rule.{Rule}
use Rattle.gw_script.specs.Order.{in_order}
use Rattle.gw_ask_sets.specs.shapes.Shape.{Shape}
use Rattle.gw_ask_sets.specs.shapes.Shapes.{only, some}
use Rattle.gw_ask_sets.specs.declared.shapes.search.Outcome.{Outcome}
use Rattle.gw_ask_sets.specs.declared.shapes.search.Outcome.TheVariants as outcome
use Rattle.gw_ask_sets.specs.declared.shapes.side.Side.{Side}
use Rattle.gw_policy_review.specs.permissions.Allowances.{AreAllowances}
use Rattle.gw_policy_review.specs.permissions.Passing.{IsPassage, decides_all, finding_at, is_never, lets}
use Rattle.gw_policy_review.specs.permissions.Questions.{claiming, entering, reading}
use Rattle.gw_policy_review.specs.permissions.Texts.{AreInTurn}
use Rattle.gw_policy_review.specs.permissions.Words.{rule_words}
use Rattle.gw_policy_review.specs.Places.{is_derived}
use Rattle.gw_policy_review.specs.lint.Finding.{AreTrue}
use Rattle.gw_policy_review.specs.warnings.Oversights.{is_near, passes_to, share}
use Rattle.gw_policy_review.specs.declared.lint.finding.Finding.{Finding}
use Rattle.gw_policy_review.specs.declared.lint.finding.Finding.TheVariants as finding
use Rattle.gw_policy_review.specs.declared.permissions.grants.Deed.{Deed}
use Rattle.gw_policy_review.specs.declared.permissions.grants.Deed.TheVariants.{Enter, Claim}
use Rattle.gw_policy_review.specs.declared.permissions.questions.Point.{Point}

-- ---- what rules let others do

abbrev pub head_words : Deed → List ℕ
head_words (Enter port) = codes "port " ++ decimal port ++ codes ": "
head_words Claim = []

-- each ask for the deed is allowed by the rule, one is, some may be, or none is by any
abbrev pub every_words : Deed → List ℕ
every_words (Enter port) = codes " lets every stranger enter\n"
every_words Claim = codes " lets everyone speak for every network behind a router\n"

abbrev pub some_words : Deed → List ℕ
some_words (Enter port) = codes " lets some strangers enter\n"
some_words Claim = codes " lets some others speak for a network behind a router\n"

abbrev pub maybe_words : Deed → List ℕ
maybe_words (Enter port) = codes " may let strangers enter\n"
maybe_words Claim = codes " may let others speak for a network behind a router\n"

abbrev pub none_words : Deed → List ℕ
none_words (Enter port) = codes "no rule lets a stranger enter\n"
none_words Claim = codes "no rule lets others speak for a network behind a router\n"

-- what is found of a rule over the asks for the deed: it decides one, or that isn't known
abbrev pub found_words : Finding → Deed → List ℕ
found_words (finding.Decides ask) deed = some_words deed
found_words _ deed = maybe_words deed

abbrev pub extent_words : Bool → Finding → Deed → List ℕ
extent_words every found deed = if every then every_words deed else found_words found deed

-- the line of the rule of this number, for a deed whose asks have this shape
abbrev pub grant_words : Configuration → (lines : List ℕ) → Deed → Shape → ℕ → Rule → Finding → List ℕ
grant_words c lines deed shape number rule found =
    head_words deed ++ (rule_words c lines number rule.name ++ extent_words (decides_all shape c.rules number rule) found deed)

-- if it lets anybody do it
abbrev pub grant_line : Configuration → (lines : List ℕ) → Deed → Shape → List Finding → ℕ → Rule → List ℕ
grant_line c lines deed shape findings number rule =
    if lets rule (finding_at findings number) then grant_words c lines deed shape number rule (finding_at findings number) else []

abbrev pub grants_text : Configuration → (lines : List ℕ) → Deed → Shape → List Finding → List ℕ
grants_text c lines deed shape findings = in_order (grant_line c lines deed shape findings) 1 c.rules

-- these lines, or that there is none
abbrev pub grants_or_none : Deed → (grants : List ℕ) → List ℕ
grants_or_none deed grants = if length grants == 0 then head_words deed ++ none_words deed else grants

-- A text has a line for each rule that lets somebody do a deed, by what is found of the rules over the asks of this shape, or says that
-- there is none; so many steps are left before, and after.
pub record AreGrants (c : Configuration) (lines : List ℕ) (deed : Deed) (shape : Shape) (left rest : ℕ)
    (text : List ℕ) : Type 0 where
  pub findings : List Finding
  pub are_true : AreTrue (shape ∷ []) c.rules left rest findings
  pub shown : text ≡ grants_or_none deed (grants_text c lines deed shape findings)

-- such lines follow what a buffer held
abbrev pub AppendsGrants : Configuration → (lines : List ℕ) → Deed → Shape → (left rest : ℕ) → List ℕ → List ℕ → Type 0
AppendsGrants c lines deed shape left rest old new =
    (text : List ℕ) × AreGrants c lines deed shape left rest text × (new ≡ old ++ text)

-- ---- ports

abbrev pub subnet_words : Subnet → List ℕ
subnet_words subnet = subnet_text subnet ++ codes ", "

-- where another broadcast manager is beside the port
abbrev pub manager_words : BipAddr → List ℕ
manager_words manager = codes "and nobody registers: " ++ text_of manager ++ codes " is the broadcast manager\n"

abbrev pub managed_words : List ℕ → BipAddr → List ℕ
managed_words text manager = text ++ manager_words manager

abbrev pub everyone_words : Option BipAddr → List ℕ
everyone_words None = codes ": everyone is a station\n"
everyone_words (Some manager) = managed_words (codes ": everyone is a station, ") manager

abbrev pub foreign_words : Option BipAddr → List ℕ
foreign_words None = codes "and registered foreign devices\n"
foreign_words (Some manager) = managed_words [] manager

abbrev pub named_words : List Subnet → Option BipAddr → List ℕ
named_words stations manager = codes ": stations are " ++ flat_map subnet_words stations ++ foreign_words manager

abbrev pub stations_words : Port → List ℕ
stations_words port =
    if length port.stations == 0 then everyone_words port.bbmd
    else named_words port.stations port.bbmd

-- Strangers enter where the port names its stations, and not where it has none.
abbrev pub AreEntriesOf : (has_none : Bool) → Configuration → (lines : List ℕ) → ℕ → Port → (left rest : ℕ) → List ℕ → Type 0
AreEntriesOf true c lines number port left rest text = (rest ≡ left) × (text ≡ [])
AreEntriesOf false c lines number port left rest text =
    AreGrants c lines (Enter number) (entering number port.network) left rest text

abbrev pub AreEntries : Configuration → (lines : List ℕ) → ℕ → Port → (left rest : ℕ) → List ℕ → Type 0
AreEntries c lines number port left rest text = AreEntriesOf (length port.stations == 0) c lines number port left rest text

-- the stations of a port, and who enters there
pub record IsPort (c : Configuration) (lines : List ℕ) (number : ℕ) (port : Port) (left rest : ℕ) (text : List ℕ) : Type 0 where
  pub entries : List ℕ
  pub are_entries : AreEntries c lines number port left rest entries
  pub shown : text ≡ codes "port " ++ (decimal number ++ (stations_words port ++ entries))

-- such lines follow what a buffer held
abbrev pub AppendsEntries : Configuration → (lines : List ℕ) → ℕ → Port → (left rest : ℕ) → List ℕ → List ℕ → Type 0
AppendsEntries c lines number port left rest old new =
    (text : List ℕ) × AreEntries c lines number port left rest text × (new ≡ old ++ text)

abbrev pub AppendsPort : Configuration → (lines : List ℕ) → ℕ → Port → (left rest : ℕ) → List ℕ → List ℕ → Type 0
AppendsPort c lines number port left rest old new =
    (text : List ℕ) × IsPort c lines number port left rest text × (new ≡ old ++ text)

-- those of ports, counted on from a number
abbrev pub ArePorts : Configuration → (lines : List ℕ) → ℕ → List Port → (left rest : ℕ) → List ℕ → Type 0
ArePorts c lines number ports left rest text = AreInTurn (IsPort c lines) number ports left rest text

-- ---- networks

abbrev pub own_line : ℕ → Port → List ℕ
own_line number port =
    codes "network " ++ decimal port.network ++ codes ": no router speaks for it, since port " ++ decimal number
    ++ codes " has it\n"

abbrev pub device_line : Device → List ℕ
device_line device =
    codes "network " ++ decimal device.network ++ codes ": no router speaks for it, since the device has it\n"

abbrev pub router_words : Route → List ℕ
router_words route =
    codes ": the router " ++ text_of route.next ++ codes " on port " ++ decimal route.port ++ codes " speaks for it\n"

abbrev pub route_line : Route → List ℕ
route_line route = (codes "network " ++ decimal route.network) ++ router_words route

-- of the ports' networks, the device's, and those of the routes
abbrev pub network_lines : Configuration → List ℕ
network_lines c = in_order own_line 1 c.ports ++ device_line c.device ++ flat_map route_line c.routes

-- ---- where a network is more than the port's own subnet

-- a rule that allows messages to pass, or what they name, to the stations of a subnet in a network that it names
abbrev pub reaches : Rule → (network : ℕ) → Subnet → Bool
reaches rule network subnet =
    rule.allow && (list_any (holds network) rule.ranges.destination_network
    && (passes_to rule.ranges.operation && share rule.ranges.station (keys_of subnet ∷ [])))

abbrev pub reach_line : Configuration → (lines : List ℕ) → ℕ → Rule → (network : ℕ) → Subnet → List ℕ
reach_line c lines number rule network subnet =
    rule_words c lines number rule.name ++ (codes " reaches " ++ (subnet_text subnet ++ (codes " too, by network " ++ (decimal network
    ++ codes "\n"))))

-- of a subnet of the stations of a port that isn't the port's own
abbrev pub reached_line : Configuration → (lines : List ℕ) → ℕ → Rule → Port → Subnet → List ℕ
reached_line c lines number rule port subnet =
    if not (is_near port subnet) && reaches rule port.network subnet
    then reach_line c lines number rule port.network subnet else []

abbrev pub reached_lines : Configuration → (lines : List ℕ) → ℕ → Rule → Port → List ℕ
reached_lines c lines number rule port = flat_map (reached_line c lines number rule port) port.stations

-- for each port, if the table is the rule's own
abbrev pub reach_lines : Configuration → (lines : List ℕ) → ℕ → Rule → List ℕ
reach_lines c lines number rule =
    if is_derived c.tables number then [] else flat_map (reached_lines c lines number rule) c.ports

-- ---- objects

-- an object by its number from 1, its type and instance, and its name
abbrev pub identifier_words : ℕ → Object → List ℕ
identifier_words number object =
    codes "object " ++ decimal number ++ codes " (" ++ decimal (type_number object.value) ++ codes ","
    ++ decimal object.instance ++ codes ") \""

abbrev pub name_words : Object → List ℕ
name_words object = shown object.name ++ codes "\""

abbrev pub object_words : ℕ → Object → List ℕ
object_words number object = identifier_words number object ++ name_words object

-- the policy hides the object from every source of the network
abbrev pub is_hidden : List Rule → Object → ℕ → Bool
is_hidden rules object network = hides_from_network rules network (type_number object.value) object.instance

abbrev pub hidden_words : ℕ → Object → ℕ → List ℕ
hidden_words number object network = object_words number object ++ codes " is hidden from network " ++ decimal network

-- what a search for an ask of the network to read these properties of an object of the device finds that is allowed; so many steps are
-- left before, and after
abbrev pub IsRead : Configuration → ℕ → Point → (left rest : ℕ) → Outcome → Type 0
IsRead c network point left rest found =
    IsPassage (reading (length c.ports) c.device.network network point ∷ []) c.rules left rest found

abbrev pub point_of : Object → Side → Point
point_of object property = record { kind = type_number object.value; instance = object.instance; property = property }

-- Object_List of the device (clauses 12.11 and 21)
abbrev pub object_list : Device → Point
object_list device = record { kind = 8; instance = device.instance; property = only 76 }

-- that it is read, or that it isn't known
abbrev pub reads_words : Outcome → List ℕ
reads_words outcome.Unknown = codes " may read "
reads_words _ = codes " can read "

abbrev pub network_reads : ℕ → Object → ℕ → Outcome → List ℕ
network_reads number object network found =
    object_words number object ++ (codes ": network " ++ decimal network ++ reads_words found)

-- Object_List names an object that is hidden
abbrev pub list_line : ℕ → Object → ℕ → Outcome → List ℕ
list_line number object network found =
    if is_never found then [] else network_reads number object network found ++ codes "Object_List, which names it\n"

abbrev pub IsListed : Configuration → ℕ → Object → ℕ → (left rest : ℕ) → List ℕ → Type 0
IsListed c number object network left rest text =
    (found : Outcome) × IsRead c network (object_list c.device) left rest found × (text ≡ list_line number object network found)

-- a property reveals what Present_Value is or may become
abbrev pub property_words : List ℕ → List ℕ
property_words name = codes "its " ++ name ++ codes ", though not its Present_Value\n"

abbrev pub property_line : ℕ → Object → ℕ → List ℕ → Outcome → List ℕ
property_line number object network name found =
    if is_never found then [] else network_reads number object network found ++ property_words name

abbrev pub IsProperty : Configuration → ℕ → Object → ℕ → ℕ → List ℕ → (left rest : ℕ) → List ℕ → Type 0
IsProperty c number object network property name left rest text =
    (found : Outcome) × IsRead c network (point_of object (only property)) left rest found
    × (text ≡ property_line number object network name found)

abbrev pub AreProperties : Configuration → ℕ → Object → ℕ → (left rest : ℕ) → List ℕ → Type 0
AreProperties c number object network left rest text =
    (between : ℕ) × (array default : List ℕ) × IsProperty c number object network 87 (codes "Priority_Array") left between array
    × IsProperty c number object network 104 (codes "Relinquish_Default") between rest default × (text ≡ array ++ default)

-- if Present_Value (85) can't be read
abbrev pub AreRevealingOf : Configuration → ℕ → Object → ℕ → Outcome → (left rest : ℕ) → List ℕ → Type 0
AreRevealingOf c number object network outcome.Never left rest text = AreProperties c number object network left rest text
AreRevealingOf c number object network found left rest text = (rest ≡ left) × (text ≡ [])

abbrev pub AreRevealing : Configuration → ℕ → Object → ℕ → (left rest : ℕ) → List ℕ → Type 0
AreRevealing c number object network left rest text =
    (found : Outcome) × (between : ℕ) × IsRead c network (point_of object (only 85)) left between found
    × AreRevealingOf c number object network found between rest text

-- no property of the object can be read: it is hidden
abbrev pub IsHiding : Configuration → ℕ → Object → ℕ → (left rest : ℕ) → List ℕ → Type 0
IsHiding c number object network left rest text =
    (list : List ℕ) × IsListed c number object network left rest list
    × (text ≡ (hidden_words number object network ++ codes ": from whoever claims to be of it\n") ++ list)

abbrev pub AreReadingsOf : Configuration → ℕ → Object → ℕ → Outcome → (left rest : ℕ) → List ℕ → Type 0
AreReadingsOf c number object network outcome.Never left rest text = IsHiding c number object network left rest text
AreReadingsOf c number object network found left rest text = AreRevealing c number object network left rest text

-- what a network, and so whoever claims to be of it, reads of an object that is hidden, or whose Present_Value is
abbrev pub AreReadings : Configuration → ℕ → Object → ℕ → (left rest : ℕ) → List ℕ → Type 0
AreReadings c number object network left rest text =
    (found : Outcome) × (between : ℕ) × IsRead c network (point_of object (some fields.Property)) left between found
    × AreReadingsOf c number object network found between rest text

-- of each port's network
abbrev pub AreObjectLines : Configuration → ℕ → Object → (left rest : ℕ) → List ℕ → Type 0
AreObjectLines c number object left rest text =
    AreInTurn (λ place port. AreReadings c number object port.network) 1 c.ports left rest text

-- ---- notes

abbrev pub named_note : Configuration → (lines : List ℕ) → ℕ → List ℕ → List ℕ → List ℕ
named_note c lines number name note = rule_words c lines number name ++ (codes ": " ++ (shown note ++ codes "\n"))

-- the note of the rule of this number, if it has one
abbrev pub note_line : Configuration → (lines : List ℕ) → ℕ → List ℕ → List ℕ
note_line c lines number note =
    if length note == 0 then []
    else option_map_or (λ rule. named_note c lines number rule.name note) (slice_get c.rules (number - 1)) []

-- ---- formats 1 and 2

-- that an object is hidden from a network, where it is
abbrev pub hidden_line : List Rule → ℕ → Object → Port → List ℕ
hidden_line rules number object port =
    if is_hidden rules object port.network then hidden_words number object port.network ++ codes "\n" else []

abbrev pub plain_lines : List Rule → List Port → ℕ → Object → List ℕ
plain_lines rules ports number object = flat_map (hidden_line rules number object) ports

-- ---- the whole

-- the lines after those of what rules let others do
pub record AreLater (c : Configuration) (lines : List ℕ) (left rest : ℕ) (text : List ℕ) : Type 0 where
  pub objects : List ℕ
  pub are_objects : AreInTurn (AreObjectLines c) 1 c.objects left rest objects
  pub shown : text ≡ in_order (reach_lines c lines) 1 c.rules ++ (objects ++ in_order (note_line c lines) 1 c.notes)

-- such lines follow what a buffer held
abbrev pub AppendsPorts : Configuration → (lines : List ℕ) → List Port → (left rest : ℕ) → List ℕ → List ℕ → Type 0
AppendsPorts c lines ports left rest old new = (text : List ℕ) × ArePorts c lines 1 ports left rest text × (new ≡ old ++ text)

-- the lines of a configuration of format 3: the searches for all of them share 262,144 steps
pub record AreFull (c : Configuration) (lines text : List ℕ) : Type 0 where
  pub after_ports : ℕ
  pub ports : List ℕ
  pub are_ports : ArePorts c lines 1 c.ports 262144 after_ports ports
  pub after_claims : ℕ
  pub claims : List ℕ
  pub are_claims : AreGrants c lines Claim (claiming (length c.ports)) after_ports after_claims claims
  pub after_allowances : ℕ
  pub allowances : List ℕ
  pub are_allowances : AreAllowances c lines after_claims after_allowances allowances
  pub rest : ℕ
  pub later : List ℕ
  pub are_later : AreLater c lines after_allowances rest later
  pub shown : text ≡ ports ++ (network_lines c ++ (claims ++ (allowances ++ later)))

abbrev pub AppendsFull : Configuration → (lines : List ℕ) → List ℕ → List ℕ → Type 0
AppendsFull c lines old new = (text : List ℕ) × AreFull c lines text × (new ≡ old ++ text)

-- those of a configuration of format 3, or of another
abbrev pub AreLinesOf : (is_third : Bool) → Configuration → (lines : List ℕ) → List ℕ → Type 0
AreLinesOf true c lines text = AreFull c lines text
AreLinesOf false c lines text = text ≡ in_order (plain_lines c.rules c.ports) 1 c.objects

-- A text says who may do what under a configuration, of whose text the tables of the rules begin on these lines.
abbrev pub ArePermissions : Configuration → (lines : List ℕ) → List ℕ → Type 0
ArePermissions c lines text = AreLinesOf (names_stations c.format) c lines text

-- such lines follow what a buffer held
abbrev pub AppendsPermissions : Configuration → (lines : List ℕ) → List ℕ → List ℕ → Type 0
AppendsPermissions c lines old new = (text : List ℕ) × ArePermissions c lines text × (new ≡ old ++ text)
