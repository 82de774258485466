-- The asks that lines show, which of them are wanted, and what two of the same station have together.
use Rattle.std.specs.Prelude.{◌≡◌, ℕ, Bool, true, false, not, nat_eq, ◌&&◌, ◌||◌, ◌==◌, if◌then◌else◌, List, [], ◌∷◌, Option, filter}
use Rattle.std.specs.List.{flat_map, list_any}
use Rattle.std.specs.Option.{option_eq, option_map_or}
use Rattle.gw_rules.specs.Ask.{Ask}
use Rattle.gw_rules.specs.RuleList.{allows}
use Rattle.gw_rules.specs.declared.rule.Rule.{Rule}

-- ---- sets of asks

-- two lists have the same asks: a test that one of these passes is passed by one of those
abbrev pub HaveSame : List Ask → List Ask → Type 0
HaveSame some others = (test : Ask → Bool) → list_any test some ≡ list_any test others

-- one ask more
abbrev pub Adds : List Ask → List Ask → Ask → Type 0
Adds before after ask = (test : Ask → Bool) → list_any test after ≡ (list_any test before || test ask)

-- asks more
abbrev pub AddsAll : List Ask → List Ask → List Ask → Type 0
AddsAll before after asks = (test : Ask → Bool) → list_any test after ≡ (list_any test before || list_any test asks)

-- an ask is there
abbrev pub Has : List Ask → Ask → Type 0
Has asks ask = (test : Ask → Bool) → test ask ≡ true → list_any test asks ≡ true

-- the asks that these rules don't allow
abbrev pub denied : List Rule → List Ask → List Ask
denied rules asks = filter (λ ask. not (allows rules ask)) asks

-- ---- asks that don't say what they are for

abbrev pub is_none : Option ℕ → Bool
is_none value = option_map_or (λ n. false) value true

-- it lacks the type, the instance or the property
abbrev pub lacks_property : Ask → Bool
lacks_property ask = is_none ask.object_type || (is_none ask.instance || is_none ask.property)

-- for an operation: a read, 9, or a write, 10, that doesn't name what it is for
abbrev pub lacks_for : ℕ → Ask → Bool
lacks_for operation ask =
    if operation == 9 then lacks_property ask
    else if operation == 10 then lacks_property ask || is_none ask.priority
    else false

-- Its own rule would be about each object, each property or each priority: or about each operation.
abbrev pub is_open : Ask → Bool
is_open ask = option_map_or (λ operation. lacks_for operation ask) ask.operation true

-- those that have rules
abbrev pub taken : List Ask → List Ask
taken asks = filter (λ ask. not (is_open ask)) asks

-- ---- what a station asked for at other times

-- of the same station, by the same way, for the same deed and destination
abbrev pub akin : Ask → Ask → Bool
akin a b =
    option_eq nat_eq a.operation b.operation && (option_eq nat_eq a.port b.port
    && (option_eq nat_eq a.source_network b.source_network && (option_eq nat_eq a.source_key b.source_key
    && (option_eq nat_eq a.destination_network b.destination_network && (option_eq nat_eq a.service b.service
    && (option_eq nat_eq a.sender b.sender && option_eq nat_eq a.station b.station))))))

-- the object of the one, and the property and the priority of the other
abbrev pub of_both : Ask → Ask → Ask
of_both a b = record a { property = b.property; priority = b.priority }

-- an ask's object, with each property and priority that is akin
abbrev pub filled_from : List Ask → Ask → List Ask
filled_from given a = flat_map (λ b. if akin a b then of_both a b ∷ [] else []) given

-- each object with each property and priority
abbrev pub filled : List Ask → List Ask
filled given = flat_map (filled_from given) given
