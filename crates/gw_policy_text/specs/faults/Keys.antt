-- The keys of the table where a fault is, from the tables by which the reader judges it.
use Rattle.std.specs.Prelude.{◌≡◌, ℕ, List, [], ◌∷◌, ◌++◌, codes, Option, Some, None, option_and_then, Err}
use Rattle.std.specs.List.{flat_map}
use Rattle.std.specs.Result.{result_ok}
use Rattle.toml.specs.Data.{Data, Members, get_member, no_members}
use Rattle.gw_rules.specs.declared.format.Format.{Format}
use Rattle.gw_configuration.specs.declared.fault.ConfigFault.TheVariants.{UnknownKey}
use Rattle.gw_configuration.specs.declared.located.Place.{Place}
use Rattle.gw_configuration.specs.declared.located.Place.TheVariants.{Text, Top, Device, Port, Peer, Route}
use Rattle.gw_configuration.specs.declared.located.Place.TheVariants.{Object, Set, Rule, Assertion}
use Rattle.gw_configuration.specs.declared.object.ObjectKind.{ObjectKind}
use Rattle.gw_configuration.specs.Located.{Find, at_key}
use Rattle.gw_policy_text.specs.keys.Field.{Field, stranger}
use Rattle.gw_policy_text.specs.keys.Tables.{device_fields, format_in, object_fields, peer_fields, port_fields, route_fields}
use Rattle.gw_policy_text.specs.keys.Tables.{assertion_fields, rule_fields, set_fields, top_fields}
use Rattle.gw_policy_text.specs.keys.Value.{kind_in}
use Rattle.gw_policy_text.specs.Document.{configuration_of}
use Rattle.gw_policy_text.specs.Parts.{device_of, object_of_kind, peer_of, port_of, route_of}
use Rattle.gw_policy_text.specs.Policy.{assertion_of, rule_of, set_of}
use Rattle.gw_policy_text.specs.faults.Place.{table_at}

-- the fields of a table

-- the type of the object in a table
abbrev pub kind_in_table : Option Members → Option ObjectKind
kind_in_table table =
    option_and_then (λ value. result_ok (kind_in value)) (option_and_then (get_member (codes "type")) table)

-- those of an object of that type; how many states it has changes none of its keys
abbrev pub kind_fields : Option ObjectKind → List Field
kind_fields (Some kind) = object_fields kind 0
kind_fields None = []

-- those of the table at a place; how many ports there are changes none of a route's keys, and what a rule says of itself none
-- of a rule's
abbrev pub fields_at : Place → Members → List Field
fields_at Text top = []
fields_at Top top = top_fields (format_in top)
fields_at Device top = device_fields
fields_at (Port port) top = port_fields (format_in top)
fields_at (Peer port peer) top = peer_fields
fields_at (Route route) top = route_fields 0
fields_at (Object object) top = kind_fields (kind_in_table (table_at (Object object) top))
fields_at (Set set) top = set_fields
fields_at (Rule rule) top = rule_fields (format_in top) no_members
fields_at (Assertion assertion) top = assertion_fields

-- their keys in words

-- a key after another one
abbrev pub one_more : Field → List ℕ
one_more field = codes ", " ++ field.key

-- the keys, if there are any
abbrev pub keys_words : List Field → List ℕ
keys_words [] = []
keys_words (field ∷ others) = codes "; known keys here: " ++ (field.key ++ flat_map one_more others)

-- law: the first key of a table that isn't listed is the unknown key that the reader answers

-- a reader of the tables at a place that knows these fields
abbrev pub Knows : {A : Type 0} → Place → List Field → (Members → Find A) → Type 0
Knows place fields read = (table : Members) (key : List ℕ) →
    stranger fields table ≡ Some key → read table ≡ Err (at_key place UnknownKey (Some key))

-- the reader of a text whose top table is this one
abbrev pub KnowsTop : Members → Type 0
KnowsTop top = (key : List ℕ) →
    stranger (fields_at Top top) top ≡ Some key → configuration_of top ≡ Err (at_key Top UnknownKey (Some key))

-- in such a text
pub record AreKnown (top : Members) : Type 0 where
  pub whole : KnowsTop top
  pub device : Knows Device (fields_at Device top) device_of
  pub port : (port : ℕ) → Knows (Port port) (fields_at (Port port) top) (port_of (format_in top) port)
  pub peer : (port peer : ℕ) → Knows (Peer port peer) (fields_at (Peer port peer) top) (peer_of port peer)
  pub route : (ports route : ℕ) → Knows (Route route) (fields_at (Route route) top) (route_of ports route)
  pub object : (object : ℕ) (kind : ObjectKind) → Knows (Object object) (kind_fields (Some kind)) (object_of_kind object kind)
  pub set : (rules assertions : List Data) (set : ℕ) → Knows (Set set) (fields_at (Set set) top) (set_of rules assertions set)
  pub assertion : (sets : List Data) (assertion : ℕ)
      → Knows (Assertion assertion) (fields_at (Assertion assertion) top) (assertion_of sets assertion)
  pub rule : (sets : List Data) (rule : ℕ) → Knows (Rule rule) (fields_at (Rule rule) top) (rule_of (format_in top) sets rule)
