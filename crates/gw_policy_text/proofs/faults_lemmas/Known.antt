-- The first key of a table that is none of its fields' is the fault that the reader answers.
use Rattle.std.proofs.Common.{◌≡◌, ℕ, List, [], if◌then◌else◌, Bool, false, Err, ap, refl, ◌∙◌}
use Rattle.std.specs.Prelude.{Option, Some, None, codes, is_some, option_map}
use Rattle.toml.specs.Data.{Data, Members, no_members, member}
use Rattle.gw_addr.specs.Reading.{◌>>=◌}
use Rattle.gw_configuration.specs.declared.fault.ConfigFault.TheVariants.{UnknownKey}
use Rattle.gw_configuration.specs.declared.located.Place.{Place}
use Rattle.gw_configuration.specs.declared.located.Place.TheVariants.{Top, Device, Port, Peer, Route, Object, Set, Rule, Assertion}
use Rattle.gw_configuration.specs.declared.object.ObjectKind.{ObjectKind}
use Rattle.gw_configuration.specs.declared.shape.Naming.{Naming}
use Rattle.gw_configuration.specs.declared.shape.Naming.TheVariants as namings
use Rattle.gw_rules.specs.declared.format.Format.{Format}
use Rattle.gw_rules.specs.declared.format.Format.TheVariants as formats
use Rattle.gw_configuration.specs.declared.object.ObjectKind.TheVariants as kinds
use Rattle.gw_configuration.specs.Duplicates.{unique}
use Rattle.gw_configuration.specs.Located.{Find, Located, at_key, unless, whole}
use Rattle.gw_policy_text.specs.keys.Field.{Field, fault_of_fields, is_key, located_as, located_beside, located_in, stranger}
use Rattle.gw_policy_text.specs.keys.Tables.{device_fields, format_in, object_fields, peer_fields, port_fields, route_fields}
use Rattle.gw_policy_text.specs.keys.Tables.{assertion_fields, every_rule_field, is_true_at, naming_of, rule_fields, set_fields, top_fields}
use Rattle.gw_policy_text.specs.Document.{configuration_of, parts_of}
use Rattle.gw_policy_text.specs.Parts.{count_at, device_of, device_parts, object_of_kind, object_parts, peer_parts, port_parts, route_parts}
use Rattle.gw_policy_text.specs.Policy.{assertion_of, assertion_parts, rule_of, set_of, set_parts, written_parts}
use Rattle.gw_policy_text.specs.faults.Keys.{AreKnown, Knows, fields_at, kind_fields}

-- an unknown key is the fault of a table
beside : (sets : List Data) (place : Place) (fields : List Field) (table : Members) (key : List ℕ) → stranger fields table ≡ Some key
    → located_beside sets place fields table ≡ Some (at_key place UnknownKey (Some key))
unfolding located_beside
beside sets place fields table key is =
    ap
    (λ (s : Option (List ℕ)). option_map (located_as sets place fields table) (if is_some s then Some UnknownKey else fault_of_fields sets fields table))
    is
    ∙ ap (λ (s : Option (List ℕ)). Some (at_key place UnknownKey s)) is

-- so it is what is answered of it
refused : {A : Type 0} (sets : List Data) (place : Place) (fields : List Field) (table : Members) (key : List ℕ) (reading : Find A)
    → stranger fields table ≡ Some key → unless (located_beside sets place fields table) reading ≡ Err (at_key place UnknownKey (Some key))
refused sets place fields table key reading is =
    ap (λ (found : Option Located). unless found reading) (beside sets place fields table key is)

-- tables of the same keys have the same unknown ones
same_stranger : (fields others : List Field) → ((key : List ℕ) → is_key fields key ≡ is_key others key) → (table : Members)
    → stranger fields table ≡ stranger others table
same_stranger fields others same no_members = refl
same_stranger fields others same (member key value members) =
    ap (λ (known : Bool). if known then stranger fields members else Some key) (same key)
    ∙ ap (λ (s : Option (List ℕ)). if is_key others key then s else Some key) (same_stranger fields others same members)

of_states : (kind : ObjectKind) (states : ℕ) (key : List ℕ) → is_key (object_fields kind states) key ≡ is_key (object_fields kind 0) key
of_states kinds.BinaryValue states key = refl
of_states kinds.MultiStateValue states key = refl
of_states kinds.CharacterStringValue states key = refl
of_states kinds.IntegerValue states key = refl
of_states kinds.PositiveIntegerValue states key = refl

of_device : Knows Device device_fields device_of
unfolding device_of
of_device table key is = refused [] Device device_fields table key (whole (device_parts table)) is

of_route : (ports route : ℕ) (table : Members) (key : List ℕ) → stranger (route_fields 0) table ≡ Some key
    → unless (located_in (Route route) (route_fields ports) table) (whole (route_parts ports table)) ≡ Err (at_key (Route route) UnknownKey (Some key))
of_route ports route table key is =
    refused [] (Route route) (route_fields ports) table key (whole (route_parts ports table))
    (same_stranger (route_fields ports) (route_fields 0) (λ k. refl) table ∙ is)

of_object : (object : ℕ) (kind : ObjectKind) → Knows (Object object) (object_fields kind 0) (object_of_kind object kind)
unfolding object_of_kind
of_object object kind table key is =
    let states = count_at (codes "states") table in
    refused [] (Object object) (object_fields kind states) table key (whole (object_parts kind table))
    (same_stranger (object_fields kind states) (object_fields kind 0) (of_states kind states) table ∙ is)

of_set : (rules assertions : List Data) (set : ℕ) → Knows (Set set) set_fields (set_of rules assertions set)
unfolding set_of
of_set rules assertions set table key is = refused [] (Set set) set_fields table key (whole (set_parts rules assertions table)) is

-- what a rule says of itself changes none of its keys
of_manner : (naming : Naming) (allows : Bool) (key : List ℕ) → is_key (every_rule_field naming allows) key ≡ is_key (every_rule_field (namings.Rule formats.Three) false) key
of_manner naming allows key = refl

of_members : (format : Format) (table : Members) (key : List ℕ) → is_key (rule_fields format table) key ≡ is_key (rule_fields format no_members) key
of_members formats.One table key = refl
of_members formats.Two table key = refl
of_members formats.Three table key = of_manner (naming_of formats.Three table) (is_true_at (codes "allow") table) key

of_rule : (top : Members) (sets : List Data) (rule : ℕ) → Knows (Rule rule) (rule_fields (format_in top) no_members) (rule_of (format_in top) sets rule)
unfolding rule_of
of_rule top sets rule table key is =
    refused sets (Rule rule) (rule_fields (format_in top) table) table key (whole (written_parts (format_in top) sets table))
    (same_stranger (rule_fields (format_in top) table) (rule_fields (format_in top) no_members) (of_members (format_in top) table) table ∙ is)

of_assertion : (sets : List Data) (assertion : ℕ) → Knows (Assertion assertion) assertion_fields (assertion_of sets assertion)
unfolding assertion_of
of_assertion sets assertion table key is =
    refused sets (Assertion assertion) assertion_fields table key (whole (assertion_parts sets table)) is

of_top : (top : Members) (key : List ℕ) → stranger (top_fields (format_in top)) top ≡ Some key
    → configuration_of top ≡ Err (at_key Top UnknownKey (Some key))
unfolding configuration_of
of_top top key is = refused [] Top (top_fields (format_in top)) top key (parts_of top >>= unique) is

pub are_known : (top : Members) → AreKnown top
are_known top = record {
  whole = of_top top;
  device = of_device;
  port = λ port table key is. refused [] (Port port) (port_fields (format_in top)) table key (port_parts (format_in top) port table) is;
  peer = λ port peer table key is. refused [] (Peer port peer) peer_fields table key (whole (peer_parts table)) is;
  route = of_route;
  object = of_object;
  set = of_set;
  rule = of_rule top;
  assertion = of_assertion;
}
