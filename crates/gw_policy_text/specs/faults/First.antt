-- Where a value is first that is named twice.
use Rattle.std.specs.Prelude.{ℕ, Bool, false, ◌&&◌, ◌||◌, List, [], ◌++◌, codes, nat_eq, position, if◌then◌else◌}
use Rattle.std.specs.Prelude.{Option, Some, None, Ok, Err, Result, option_and_then}
use Rattle.std.specs.Cmp.Lexicographic.{pointwise}
use Rattle.std.specs.Ordering.{int_eq}
use Rattle.std.specs.Option.{option_map, option_map_or}
use Rattle.toml.specs.Data.{Data, Members, as_table, get_member, integer, string}
use Rattle.gw_configuration.specs.declared.fault.ConfigFault.{ConfigFault}
use Rattle.gw_configuration.specs.declared.located.Place.{Place}
use Rattle.gw_configuration.specs.declared.located.Place.TheVariants.{Assertion, Device, Object, Peer, Port, Route, Rule, Set}
use Rattle.gw_configuration.specs.Located.{Located}
use Rattle.gw_policy_text.specs.keys.Value.{list_in}
use Rattle.gw_policy_text.specs.faults.Place.{table_at, table_words, value_at}

-- two values are the same number or the same text
abbrev pub is_same : Data → Data → Bool
is_same (integer one) (integer other) = int_eq one other
is_same (string one) (string other) = pointwise nat_eq one other
is_same _ _ = false

-- a table has this value at a key
abbrev pub has : (holder : Data) → (key : List ℕ) → Data → Bool
has holder key value = option_map_or (λ own. is_same own value) (option_and_then (get_member key) (as_table holder)) false

-- a port's own address and its broadcast address share their values
abbrev pub other_key : List ℕ → List ℕ
other_key key =
    if pointwise nat_eq key (codes "address") then codes "broadcast"
    else if pointwise nat_eq key (codes "broadcast") then codes "address"
    else key

-- a table has this value where it may be only once, an instance with its type
abbrev pub names_it : (key : List ℕ) → Data → (kind : Option Data) → (holder : Data) → Bool
names_it key value kind holder =
    let is_here = has holder key value || has holder (other_key key) value in
    option_map_or (λ k. is_here && has holder (codes "type") k) kind is_here

-- the first table of a list that has it
abbrev pub position_by : Result (List Data) ConfigFault → (key : List ℕ) → Data → (kind : Option Data) → Option ℕ
position_by (Ok tables) key value kind = position (names_it key value kind) tables
position_by (Err fault) key value kind = None

abbrev pub position_of : Option Data → (key : List ℕ) → Data → (kind : Option Data) → Option ℕ
position_of (Some list) key value kind = position_by (list_in list) key value kind
position_of None key value kind = None

-- the first of two
abbrev pub or_else : Option Place → Option Place → Option Place
or_else (Some one) other = Some one
or_else None other = other

-- the first table among the ports, the device, the routes and the objects that has it
abbrev pub in_site : Members → (key : List ℕ) → Data → (kind : Option Data) → Option Place
in_site top key value kind =
    or_else (option_map Port (position_of (get_member (codes "port") top) key value kind))
    (or_else (option_and_then (λ device. if names_it key value kind device then Some Device else None) (get_member (codes "device") top))
    (or_else (option_map Route (position_of (get_member (codes "route") top) key value kind))
    (option_map Object (position_of (get_member (codes "object") top) key value kind))))

-- the first table that has this value, of those of which only one may: a peer of the same port, a set, a rule, an assertion, or one of the
-- site
abbrev pub first_place : Place → Members → (key : List ℕ) → Data → (kind : Option Data) → Option Place
first_place (Peer port peer) top key value kind =
    option_map (Peer port) (position_of (option_and_then (get_member (codes "peer")) (table_at (Port port) top)) key value kind)
first_place (Set set) top key value kind = option_map Set (position_of (get_member (codes "set") top) key value kind)
first_place (Rule rule) top key value kind = option_map Rule (position_of (get_member (codes "rule") top) key value kind)
first_place (Assertion assertion) top key value kind =
    option_map Assertion (position_of (get_member (codes "assert") top) key value kind)
first_place place top key value kind = in_site top key value kind

-- the same of the value where a fault is
abbrev pub first_of : Located → (kind : Option Data) → Members → Option Place
first_of located kind top = option_and_then (λ value. first_place located.place top located.key value kind) (value_at located top)

abbrev pub first_words : Option Place → List ℕ
first_words (Some place) = codes ": " ++ table_words place ++ codes " has it"
first_words None = []
