-- The assertions of a configuration that don't hold, as a JSON object.
use Rattle.std.specs.Prelude.{ℕ, ◌+◌, Bool, true, false, if◌then◌else◌, List, [], ◌∷◌, ◌++◌, slice_get, codes, decimal, Option}
use Rattle.std.specs.Option.{option_map_or}
use Rattle.json.specs.Json.{Json, null, array, boolean, number, string}
use Rattle.gw_ask_sets.specs.declared.assertions.judging.Judged.{Judged}
use Rattle.gw_ask_sets.specs.declared.assertions.judging.Judged.TheVariants.{Holds, Broken, Empty}
use Rattle.gw_configuration.specs.Configuration.{Configuration}
use Rattle.gw_configuration.specs.declared.assertion.Assertion.{Assertion}
use Rattle.gw_rules.specs.Ask.{Ask}
use Rattle.gw_rules.specs.declared.rule.Rule.{Rule}
use Rattle.gw_json.specs.Ask.{key_or_null, number_value, operation_value}
use Rattle.gw_json.specs.Document.{items_of, object_of}
use Rattle.gw_json.specs.Why.{name_value, rule_at}

-- the twelve fields of an ask, under the keys that a rule has for them
abbrev pub ask_value : Ask → Json
ask_value ask =
    object_of ((codes "port", number_value ask.port)
    ∷ (codes "source_network", number_value ask.source_network)
    ∷ (codes "source", key_or_null ask.source_key)
    ∷ (codes "operation", operation_value true ask.operation)
    ∷ (codes "destination", number_value ask.destination_network)
    ∷ (codes "service", number_value ask.service)
    ∷ (codes "object_type", number_value ask.object_type)
    ∷ (codes "instance", number_value ask.instance)
    ∷ (codes "property", number_value ask.property)
    ∷ (codes "priority", number_value ask.priority)
    ∷ (codes "sender", key_or_null ask.sender)
    ∷ (codes "station", key_or_null ask.station)
    ∷ [])

-- an ask that breaks an assertion, whether it is allowed, and by which rule
abbrev pub broken_value : List Rule → Ask → Option ℕ → Bool → Json
broken_value rules ask by is_allowed =
    object_of ((codes "ask", ask_value ask) ∷ (codes "allowed", boolean is_allowed) ∷ (codes "by", name_value (rule_at rules by)) ∷ [])

-- what is wrong with an assertion
abbrev pub flaw_key : Judged → List ℕ
flaw_key (Broken ask by is_allowed) = codes "broken"
flaw_key Empty = codes "empty"
flaw_key _ = codes "unknown"

abbrev pub flaw_value : List Rule → Judged → Json
flaw_value rules (Broken ask by is_allowed) = broken_value rules ask by is_allowed
flaw_value rules _ = boolean true

-- the name of the assertion at a place
abbrev pub asserted_name : List Assertion → ℕ → Json
asserted_name assertions place = option_map_or (λ a. string a.name) (slice_get assertions place) null

abbrev pub is_held : Judged → Bool
is_held Holds = true
is_held _ = false

-- the assertion at a place by its number, from 1, and its name, and what is wrong with it
abbrev pub flawed_value : Configuration → ℕ → Judged → Json
flawed_value c place judged =
    object_of ((codes "number", number (decimal (place + 1))) ∷ (codes "name", asserted_name c.assertions place)
    ∷ (flaw_key judged, flaw_value c.rules judged) ∷ [])

-- if it doesn't hold
abbrev pub unheld_item : Configuration → ℕ → Judged → List Json
unheld_item c place judged = if is_held judged then [] else flawed_value c place judged ∷ []

-- those from a place on
abbrev pub unheld_items : Configuration → ℕ → List Judged → List Json
unheld_items c place [] = []
unheld_items c place (one ∷ judged) = unheld_item c place one ++ unheld_items c (place + 1) judged

-- not all that the configuration asserts holds: these assertions don't
abbrev pub unheld_members : Configuration → List Judged → List (List ℕ × Json)
unheld_members c judged =
    (codes "valid", boolean false) ∷ (codes "asserts", array (items_of (unheld_items c 0 judged))) ∷ []

abbrev pub unheld_value : Configuration → List Judged → Json
unheld_value c judged = object_of (unheld_members c judged)
