-- What is said of the parts in which two configurations differ, line by line.
use Rattle.std.specs.Prelude.{ℕ, ℤ, ◌-◌, Bool, ◌&&◌, is_some, ◌==◌, nat_eq, if◌then◌else◌, List, [], ◌∷◌, ◌++◌, length, find, position}
use Rattle.std.specs.Prelude.{slice_get, codes, decimal, Option, Some, None, true, false}
use Rattle.std.specs.Cmp.Lexicographic.{pointwise}
use Rattle.std.specs.Fmt.{signed_decimal}
use Rattle.std.specs.List.{flat_map, list_any}
use Rattle.std.specs.Option.{option_and_then, option_map, option_map_or}
use Rattle.gw_addr.specs.Address.{text_of}
use Rattle.gw_addr.specs.Mask.{mask_text}
use Rattle.gw_addr.specs.declared.bip.BipAddr.{BipAddr}
use Rattle.gw_addr.specs.declared.entry.BdtEntry.{BdtEntry}
use Rattle.gw_ask_sets.specs.regions.Ranges.{both, without}
use Rattle.gw_codecs.specs.names.Names.{object_type_name}
use Rattle.gw_configuration.specs.Configuration.{Configuration, is_same_address}
use Rattle.gw_configuration.specs.Kinds.{type_number}
use Rattle.gw_configuration.specs.Shown.{shown}
use Rattle.gw_configuration.specs.States.{States}
use Rattle.gw_configuration.specs.Subnet.{Subnet, keys_of, subnet_text}
use Rattle.gw_configuration.specs.declared.device.Device.{Device}
use Rattle.gw_configuration.specs.declared.object.Object.{Object}
use Rattle.gw_configuration.specs.declared.object.ObjectValue.{ObjectValue}
use Rattle.gw_configuration.specs.declared.object.ObjectValue.TheVariants as values
use Rattle.gw_configuration.specs.declared.route.Route.{Route}
use Rattle.gw_rules.specs.declared.format.Format.{Format}
use Rattle.gw_rules.specs.declared.format.Format.TheVariants as formats
use Rattle.gw_rules.specs.declared.range.Range.{Range}
use Rattle.gw_rules.specs.declared.rule.Rule.{Rule}
use Rattle.gw_script.specs.Order.{in_order}

-- ---- what is now, and was

-- `<head><words><now>, was <was>` and a line feed
abbrev pub said : (head words now was : List ℕ) → List ℕ
said head words now was = head ++ (words ++ (now ++ (codes ", was " ++ (was ++ 10 ∷ []))))

-- that, unless they are the same
abbrev pub number_change : (head words : List ℕ) → (now was : ℕ) → List ℕ
number_change head words now was = if now == was then [] else said head words (decimal now) (decimal was)

abbrev pub words_change : (head words now was : List ℕ) → List ℕ
words_change head words now was = if pointwise nat_eq now was then [] else said head words now was

-- a text as a line shows it, in quotes
abbrev pub quoted : List ℕ → List ℕ
quoted text = 34 ∷ (shown text ++ 34 ∷ [])

abbrev pub text_change : (head words now was : List ℕ) → List ℕ
text_change head words now was = if pointwise nat_eq now was then [] else said head words (quoted now) (quoted was)

-- ---- the frame

abbrev pub format_text : Format → List ℕ
format_text formats.One = codes "1"
format_text formats.Two = codes "2"
format_text formats.Three = codes "3"

abbrev pub truth : Bool → List ℕ
truth b = if b then codes "true" else codes "false"

-- of the device, what names it
abbrev pub identity_lines : Device → Device → List ℕ
identity_lines now was =
    number_change (codes "device: ") (codes "network ") now.network was.network
    ++ (number_change (codes "device: ") (codes "instance ") now.instance was.instance
    ++ text_change (codes "device: ") (codes "name ") now.name was.name)

-- who made it
abbrev pub maker_lines : Device → Device → List ℕ
maker_lines now was =
    number_change (codes "device: ") (codes "vendor ") now.vendor was.vendor
    ++ (text_change (codes "device: ") (codes "vendor_name ") now.vendor_name was.vendor_name
    ++ text_change (codes "device: ") (codes "model ") now.model was.model)

-- its versions
abbrev pub version_lines : Device → Device → List ℕ
version_lines now was =
    text_change (codes "device: ") (codes "firmware ") now.firmware was.firmware
    ++ (text_change (codes "device: ") (codes "software ") now.software was.software
    ++ (number_change (codes "device: ") (codes "revision ") now.revision was.revision
    ++ number_change (codes "device: ") (codes "database ") now.database was.database))

abbrev pub device_lines : Device → Device → List ℕ
device_lines now was =
    identity_lines now was
    ++ (maker_lines now was
    ++ (version_lines now was ++ text_change (codes "device: ") (codes "description ") now.description was.description))

-- ---- things that both may have

-- what is said of a list of things: of each that is there now with what it was, if it was there, and of each that is gone;
-- else, that they are in another order
abbrev pub each_text : {A : Type 0} → (A → A → Bool) → (A → Option A → List ℕ) → (A → List ℕ) → List A → List A → List ℕ
each_text is_for change gone now was =
    flat_map (λ x. change x (find (is_for x) was)) now
    ++ flat_map (λ x. if is_some (find (is_for x) now) then [] else gone x) was

-- a text, or another one if it is empty
abbrev pub or_else : List ℕ → List ℕ → List ℕ
or_else text other = if length text == 0 then other else text

abbrev pub order_line : (head words : List ℕ) → List ℕ
order_line head words = head ++ (words ++ codes " in another order\n")

-- ---- ports

abbrev pub port_head : ℕ → List ℕ
port_head number = codes "port " ++ (decimal number ++ codes ": ")

-- a subnet has a number of one of the ranges
abbrev pub has_some : Range → List Range → Bool
has_some range ranges = list_any (λ r. is_some (both range r)) ranges

-- a subnet that the ranges don't hold as a whole: how much of it they lack, and these words
abbrev pub subnet_line : (head words : List ℕ) → List Range → Subnet → List ℕ
subnet_line head words ranges subnet =
    if length (without (keys_of subnet ∷ []) ranges) == 0 then []
    else head ++ ((if has_some (keys_of subnet) ranges then codes "a part of " else []) ++ (subnet_text subnet ++ (words ++ 10 ∷ [])))

abbrev pub subnet_lines : (head words : List ℕ) → List Subnet → List Subnet → List ℕ
subnet_lines head words subnets others = flat_map (subnet_line head words (flat_map (λ s. keys_of s ∷ []) others)) subnets

-- who is a station any more, and who is one now
abbrev pub stations_lines : List ℕ → List Subnet → List Subnet → List ℕ
stations_lines head now was =
    if length now == 0 then head ++ codes "everyone is a station now\n"
    else if length was == 0 then head ++ codes "not everyone is a station any more\n"
    else subnet_lines head (codes " is no station any more") was now ++ subnet_lines head (codes " is a station now") now was

-- an address, or `none`
abbrev pub manager_text : Option BipAddr → List ℕ
manager_text manager = option_map_or text_of manager (codes "none")

abbrev pub replaced : (head now was : List ℕ) → List ℕ
replaced head now was =
    (head ++ (codes "broadcast manager " ++ now)) ++ (codes " in the place of " ++ (was ++ 10 ∷ []))

abbrev pub manager_line : List ℕ → Option BipAddr → Option BipAddr → List ℕ
manager_line head now was = replaced head (manager_text now) (manager_text was)

-- peers of one address
abbrev pub is_same_peer : BdtEntry → BdtEntry → Bool
is_same_peer a b = is_same_address a.address b.address

abbrev pub by_mask : BdtEntry → List ℕ
by_mask peer = codes "by mask " ++ mask_text (record { octets = peer.mask })

abbrev pub peer_words : BdtEntry → List ℕ
peer_words peer = codes "peer " ++ (text_of peer.address ++ codes ": ")

abbrev pub peer_change : List ℕ → BdtEntry → Option BdtEntry → List ℕ
peer_change head peer None = said head (peer_words peer) (by_mask peer) (codes "none")
peer_change head peer (Some was) =
    if pointwise nat_eq peer.mask was.mask then [] else said head (peer_words peer) (by_mask peer) (by_mask was)

abbrev pub peer_gone : List ℕ → BdtEntry → List ℕ
peer_gone head peer = said head (peer_words peer) (codes "none") (by_mask peer)

abbrev pub peers_lines : List ℕ → List BdtEntry → List BdtEntry → List ℕ
peers_lines head now was =
    or_else (each_text is_same_peer (peer_change head) (peer_gone head) now was) (order_line head (codes "the peers are"))

-- ---- routes

abbrev pub is_same_route : Route → Route → Bool
is_same_route a b = a.network == b.network

abbrev pub way_text : Route → List ℕ
way_text route = codes "by " ++ (text_of route.next ++ (codes " on port " ++ decimal route.port))

abbrev pub route_words : Route → List ℕ
route_words route = codes "route to " ++ (decimal route.network ++ codes ": ")

abbrev pub route_change : Route → Option Route → List ℕ
route_change route None = said [] (route_words route) (way_text route) (codes "none")
route_change route (Some was) =
    if is_same_address route.next was.next && (route.port == was.port) then []
    else said [] (route_words route) (way_text route) (way_text was)

abbrev pub route_gone : Route → List ℕ
route_gone route = said [] (route_words route) (codes "none") (way_text route)

abbrev pub routes_lines : List Route → List Route → List ℕ
routes_lines now was =
    or_else (each_text is_same_route route_change route_gone now was) (order_line [] (codes "the routes are"))

-- ---- objects

abbrev pub is_same_object : Object → Object → Bool
is_same_object a b = (type_number a.value == type_number b.value) && (a.instance == b.instance)

abbrev pub kind_text : ObjectValue → List ℕ
kind_text value = option_map_or (λ name. name) (object_type_name (type_number value)) []

-- `object binary-value 1`
abbrev pub object_words : Object → List ℕ
object_words object = codes "object " ++ (kind_text object.value ++ (codes " " ++ decimal object.instance))

abbrev pub object_head : Object → List ℕ
object_head object = object_words object ++ codes ": "

-- a state of a Multi-state Value, of this number, that was there before
abbrev pub state_line : List ℕ → List (List ℕ) → ℕ → List ℕ → List ℕ
state_line head was number text =
    option_map_or (λ old. text_change head (codes "state " ++ (decimal number ++ codes " ")) text old) (slice_get was (number - 1)) []

abbrev pub states_lines : List ℕ → States → States → List ℕ
states_lines head now was =
    number_change head (codes "default ") now.default was.default
    ++ (number_change head (codes "number of states ") (length now.states) (length was.states)
    ++ in_order (state_line head was.states) 1 now.states)

abbrev pub bit : Bool → ℕ
bit b = if b then 1 else 0

abbrev pub integer_lines : List ℕ → ℤ → ℤ → (units others : ℕ) → List ℕ
integer_lines head now was units others =
    words_change head (codes "default ") (signed_decimal now) (signed_decimal was)
    ++ number_change head (codes "units ") units others

-- the default of a value, and what else is configured of its type
abbrev pub value_lines : List ℕ → ObjectValue → ObjectValue → List ℕ
value_lines head (values.BinaryValue now active inactive) (values.BinaryValue was on off) =
    number_change head (codes "default ") (bit now) (bit was)
    ++ (text_change head (codes "active ") active on ++ text_change head (codes "inactive ") inactive off)
value_lines head (values.MultiStateValue now) (values.MultiStateValue was) = states_lines head now was
value_lines head (values.CharacterStringValue now) (values.CharacterStringValue was) =
    text_change head (codes "default ") now was
value_lines head (values.IntegerValue now units) (values.IntegerValue was others) =
    integer_lines head now was units others
value_lines head (values.PositiveIntegerValue now units) (values.PositiveIntegerValue was others) =
    number_change head (codes "default ") now was ++ number_change head (codes "units ") units others
value_lines head _ _ = []

abbrev pub changed_object : List ℕ → Object → Object → List ℕ
changed_object head now was =
    text_change head (codes "name ") now.name was.name
    ++ (text_change head (codes "description ") now.description was.description ++ value_lines head now.value was.value)

abbrev pub object_change : Object → Option Object → List ℕ
object_change object None = object_words object ++ codes " is new\n"
object_change object (Some was) = changed_object (object_head object) object was

abbrev pub object_gone : Object → List ℕ
object_gone object = object_words object ++ codes " is gone\n"

abbrev pub objects_lines : List Object → List Object → List ℕ
objects_lines now was =
    or_else (each_text is_same_object object_change object_gone now was) (order_line [] (codes "the objects are"))

-- ---- rules

abbrev pub is_same_rule : Rule → Rule → Bool
is_same_rule a b = pointwise nat_eq a.name b.name

abbrev pub rule_change : Rule → Option Rule → List ℕ
rule_change rule None = codes "rule " ++ (rule.name ++ codes " is new\n")
rule_change rule (Some was) = []

abbrev pub rule_gone : Rule → List ℕ
rule_gone rule = codes "rule " ++ (rule.name ++ codes " is gone\n")

abbrev pub names_lines : List Rule → List Rule → List ℕ
names_lines now was =
    or_else (each_text is_same_rule rule_change rule_gone now was) (order_line [] (codes "the rules are"))

-- what a list that goes with the rules of a policy has for the rule of this name, if there is one
abbrev pub of_rule : {A : Type 0} → List Rule → List A → Rule → Option A
of_rule rules list rule = option_and_then (slice_get list) (position (is_same_rule rule) rules)

abbrev pub audit_change : Rule → Bool → Option Bool → List ℕ
audit_change rule now None = []
audit_change rule true (Some true) = []
audit_change rule true (Some false) = codes "rule " ++ (rule.name ++ codes ": it is audited now\n")
audit_change rule false (Some true) = codes "rule " ++ (rule.name ++ codes ": it is audited no more\n")
audit_change rule false (Some false) = []

abbrev pub audit_line : Configuration → List Rule → ℕ → Bool → List ℕ
audit_line old rules number audit =
    option_map_or (λ rule. audit_change rule audit (of_rule old.rules old.audits rule)) (slice_get rules (number - 1)) []

-- of the rules that both have
abbrev pub audit_lines : Configuration → Configuration → List ℕ
audit_lines old new = in_order (audit_line old new.rules) 1 new.audits

abbrev pub note_change : Rule → List ℕ → Option (List ℕ) → List ℕ
note_change rule now None = []
note_change rule now (Some was) = text_change (codes "rule " ++ (rule.name ++ codes ": ")) (codes "note ") now was

abbrev pub note_line : Configuration → List Rule → ℕ → List ℕ → List ℕ
note_line old rules number note =
    option_map_or (λ rule. note_change rule note (of_rule old.rules old.notes rule)) (slice_get rules (number - 1)) []

abbrev pub note_lines : Configuration → Configuration → List ℕ
note_lines old new = in_order (note_line old new.rules) 1 new.notes

abbrev pub quiet_change : Rule → Bool → Option Bool → List ℕ
quiet_change rule now None = []
quiet_change rule true (Some true) = []
quiet_change rule true (Some false) = codes "rule " ++ (rule.name ++ codes ": it is quiet now\n")
quiet_change rule false (Some true) = codes "rule " ++ (rule.name ++ codes ": it is quiet no more\n")
quiet_change rule false (Some false) = []

abbrev pub quiet_line : List Rule → Rule → List ℕ
quiet_line was rule = quiet_change rule rule.quiet (option_map (λ other. other.quiet) (of_rule was was rule))

-- which of the rules that both have are quiet now, and which no more; and what follows from whatever differs
abbrev pub quiet_lines : List Rule → List Rule → List ℕ
quiet_lines now was = flat_map (quiet_line was) now ++ codes "quiet rules: the log may lack other denials than before\n"
