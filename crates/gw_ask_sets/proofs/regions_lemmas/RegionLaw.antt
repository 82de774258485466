-- A rule parts a region exactly.
use Rattle.std.proofs.Common.{◌≡◌, ◌∙◌, sym, ap, refl, ℕ, ◌+◌, ◌<◌, Bool, true, false, ◌&&◌, ◌||◌, List, [], ◌∷◌, ◌++◌, append_assoc, drop, get_or, length, take}
use Rattle.std.specs.Prelude.{not, if◌then◌else◌}
use Rattle.std.specs.List.{list_all, list_any}
use Rattle.std.proofs.lemmas.Bool.{both_ways, false_from_ne_true}
use Rattle.std.proofs.lemmas.List.Folds.{list_any-append}
use Rattle.gw_rules.specs.Ask.{Ask}
use Rattle.gw_rules.specs.Fields.{value_of, with_value}
use Rattle.gw_rules.specs.Range.{admits}
use Rattle.gw_rules.specs.Rule.{each_field, matches, ranges_of}
use Rattle.gw_rules.specs.declared.field.FieldName.{FieldName}
use Rattle.gw_rules.specs.declared.field.FieldName.TheVariants.{Operation, Port, SourceNetwork, SourceKey, DestinationNetwork, Service, ObjectType, Instance, Property, Priority, Sender, Station}
use Rattle.gw_rules.specs.declared.field.TheConstants.FieldName.{ALL}
use Rattle.gw_rules.specs.declared.rule.Rule.{Rule}
use Rattle.gw_rules.proofs.EachField.{each_field_at}
use Rattle.gw_ask_sets.specs.regions.Merging.{lies_but}
use Rattle.gw_ask_sets.specs.regions.Regions.{IsParted, Region, inside, inside_at, lies, piece, piece_at, pieces}
use Rattle.gw_ask_sets.specs.regions.Unmatched.{parts_at}
use Rattle.gw_ask_sets.specs.regions.Values.{admitted, has, is_empty, refused}
use Rattle.gw_ask_sets.specs.declared.regions.values.Values.{Values}
use Rattle.gw_ask_sets.proofs.regions_lemmas.Growing.{next_item}
use Rattle.gw_ask_sets.proofs.regions_lemmas.RangeLaw.{and_all, and_none, or_none}
use Rattle.gw_ask_sets.proofs.regions_lemmas.ValueLaw.{admitted_law, empty_law, refused_law}

-- ---- one field

-- one test of many that is passed where it was passed and another one is, too
changed : (front : List Bool) (x y b : Bool) (rest : List Bool) → y ≡ (x && b)
    → list_all (λ t. t) (front ++ y ∷ rest) ≡ (list_all (λ t. t) (front ++ x ∷ rest) && b)
changed [] x y b rest e = ap (λ c. c && list_all (λ t. t) rest) e ∙ by x b
  where
    by : (x b : Bool) → ((x && b) && list_all (λ t. t) rest) ≡ ((x && list_all (λ t. t) rest) && b)
    by false b = refl
    by true true = sym (and_all (list_all (λ t. t) rest))
    by true false = sym (and_none (list_all (λ t. t) rest))
changed (true ∷ front) x y b rest e = changed front x y b rest e
changed (false ∷ front) x y b rest e = refl

-- the tests by which an ask lies in a region
abbrev tests : Region → Ask → List Bool
tests r ask =
    has r.operation ask.operation
    ∷ has r.port ask.port
    ∷ has r.source_network ask.source_network
    ∷ has r.source_key ask.source_key
    ∷ has r.destination_network ask.destination_network
    ∷ has r.service ask.service
    ∷ has r.object_type ask.object_type
    ∷ has r.instance ask.instance
    ∷ has r.property ask.property
    ∷ has r.priority ask.priority
    ∷ has r.sender ask.sender
    ∷ has r.station ask.station ∷ []

-- with other values for a field an ask lies in the region where it lay there and these values have what it has
with_lies : (field : FieldName) (region : Region) (values : Values) (ask : Ask) (b : Bool)
    → has values (value_of field ask) ≡ (has (value_of field region) (value_of field ask) && b)
    → lies (with_value field values region) ask ≡ (lies region ask && b)
with_lies Operation r v ask b e = changed (take 0 (tests r ask)) (has r.operation ask.operation) (has v ask.operation) b (drop 1 (tests r ask)) e
with_lies Port r v ask b e = changed (take 1 (tests r ask)) (has r.port ask.port) (has v ask.port) b (drop 2 (tests r ask)) e
with_lies SourceNetwork r v ask b e = changed (take 2 (tests r ask)) (has r.source_network ask.source_network) (has v ask.source_network) b (drop 3 (tests r ask)) e
with_lies SourceKey r v ask b e = changed (take 3 (tests r ask)) (has r.source_key ask.source_key) (has v ask.source_key) b (drop 4 (tests r ask)) e
with_lies DestinationNetwork r v ask b e = changed (take 4 (tests r ask)) (has r.destination_network ask.destination_network) (has v ask.destination_network) b (drop 5 (tests r ask)) e
with_lies Service r v ask b e = changed (take 5 (tests r ask)) (has r.service ask.service) (has v ask.service) b (drop 6 (tests r ask)) e
with_lies ObjectType r v ask b e = changed (take 6 (tests r ask)) (has r.object_type ask.object_type) (has v ask.object_type) b (drop 7 (tests r ask)) e
with_lies Instance r v ask b e = changed (take 7 (tests r ask)) (has r.instance ask.instance) (has v ask.instance) b (drop 8 (tests r ask)) e
with_lies Property r v ask b e = changed (take 8 (tests r ask)) (has r.property ask.property) (has v ask.property) b (drop 9 (tests r ask)) e
with_lies Priority r v ask b e = changed (take 9 (tests r ask)) (has r.priority ask.priority) (has v ask.priority) b (drop 10 (tests r ask)) e
with_lies Sender r v ask b e = changed (take 10 (tests r ask)) (has r.sender ask.sender) (has v ask.sender) b (drop 11 (tests r ask)) e
with_lies Station r v ask b e = changed (take 11 (tests r ask)) (has r.station ask.station) (has v ask.station) b (drop 12 (tests r ask)) e

-- what the rule admits of the ask in a field
abbrev yes_at : Rule → Ask → FieldName → Bool
yes_at rule ask field = admits (ranges_of field rule) (value_of field ask)

inside_at_law : (field : FieldName) (rule : Rule) (region : Region) (ask : Ask) → lies (inside_at field rule region) ask ≡ (lies region ask && yes_at rule ask field)
inside_at_law field rule region ask =
    with_lies field region (admitted (value_of field region) (ranges_of field rule)) ask (yes_at rule ask field)
    (admitted_law (value_of field region) (ranges_of field rule) (value_of field ask))

there : (field : FieldName) (values : Values) (region : Region) → value_of field (with_value field values region) ≡ values
there field values region = elim field as (λ f. value_of f (with_value f values region) ≡ values) [ Operation ↦ refl | Port ↦ refl | SourceNetwork ↦ refl | SourceKey ↦ refl | DestinationNetwork ↦ refl | Service ↦ refl | ObjectType ↦ refl | Instance ↦ refl | Property ↦ refl | Priority ↦ refl | Sender ↦ refl | Station ↦ refl ]

-- where no value is left, no ask lies there
none_lies : (field : FieldName) (values : Values) (region : Region) (ask : Ask) → is_empty values ≡ true → lies (with_value field values region) ask ≡ false
none_lies field values region ask e =
    false_from_ne_true (lies (with_value field values region) ask) (
    λ t.
    let at : has (value_of field (with_value field values region)) (value_of field ask) ≡ true =
    each_field_at (λ f. has (value_of f (with_value field values region)) (value_of f ask)) t field in
    both_ways (has values (value_of field ask)) (empty_law values (value_of field ask) e)
    (sym (ap (λ v. has v (value_of field ask)) (there field values region)) ∙ at)
    )

one_piece : (field : FieldName) (values : Values) (region : Region) (ask : Ask)
    → list_any (λ p. lies p ask) (piece field region values) ≡ lies (with_value field values region) ask
one_piece field values region ask = by (is_empty values) refl
  where
    by : (c : Bool) → is_empty values ≡ c → list_any (λ p. lies p ask) (if c then [] else with_value field values region ∷ []) ≡ lies (with_value field values region) ask
    by true e = sym (none_lies field values region ask e)
    by false e = or_none (lies (with_value field values region) ask)

piece_at_law : (field : FieldName) (rule : Rule) (region : Region) (ask : Ask)
    → list_any (λ p. lies p ask) (piece_at field rule region) ≡ (lies region ask && not (yes_at rule ask field))
piece_at_law field rule region ask =
    one_piece field (refused (value_of field region) (ranges_of field rule)) region ask
    ∙ with_lies field region (refused (value_of field region) (ranges_of field rule)) ask (not (yes_at rule ask field))
    (refused_law (value_of field region) (ranges_of field rule) (value_of field ask))

-- both parts of a region in a field have its asks, and no other
pub parts_at_law : (field : FieldName) (rule : Rule) (region : Region) (ask : Ask)
    → list_any (λ p. lies p ask) (parts_at field rule region) ≡ lies region ask
parts_at_law field rule region ask =
    let inner = admitted (value_of field region) (ranges_of field rule) in
    list_any-append (λ p. lies p ask) (piece field region inner) (piece_at field rule region)
    ∙ ap (λ b. b || list_any (λ p. lies p ask) (piece_at field rule region)) (one_piece field inner region ask ∙ inside_at_law field rule region ask)
    ∙ ap (λ b. (lies region ask && yes_at rule ask field) || b) (piece_at_law field rule region ask)
    ∙ by (lies region ask) (yes_at rule ask field)
  where
    by : (l a : Bool) → ((l && a) || (l && not a)) ≡ l
    by true true = refl
    by true false = refl
    by false a = refl

-- ---- one field apart from the others

-- one test of many, and the others
apart : (front : List Bool) (x : Bool) (rest : List Bool) → list_all (λ t. t) (front ++ x ∷ rest) ≡ (x && list_all (λ t. t) (front ++ true ∷ rest))
apart [] x rest = refl
apart (true ∷ front) x rest = apart front x rest
apart (false ∷ front) x rest = sym (and_none x)

-- an ask lies in a region if it lies there but for a field, and has one of the values for this field
pub lies_apart : (field : FieldName) (region : Region) (ask : Ask) → lies region ask ≡ (has (value_of field region) (value_of field ask) && lies_but field region ask)
lies_apart Operation r ask = apart (take 0 (tests r ask)) (has r.operation ask.operation) (drop 1 (tests r ask))
lies_apart Port r ask = apart (take 1 (tests r ask)) (has r.port ask.port) (drop 2 (tests r ask))
lies_apart SourceNetwork r ask = apart (take 2 (tests r ask)) (has r.source_network ask.source_network) (drop 3 (tests r ask))
lies_apart SourceKey r ask = apart (take 3 (tests r ask)) (has r.source_key ask.source_key) (drop 4 (tests r ask))
lies_apart DestinationNetwork r ask = apart (take 4 (tests r ask)) (has r.destination_network ask.destination_network) (drop 5 (tests r ask))
lies_apart Service r ask = apart (take 5 (tests r ask)) (has r.service ask.service) (drop 6 (tests r ask))
lies_apart ObjectType r ask = apart (take 6 (tests r ask)) (has r.object_type ask.object_type) (drop 7 (tests r ask))
lies_apart Instance r ask = apart (take 7 (tests r ask)) (has r.instance ask.instance) (drop 8 (tests r ask))
lies_apart Property r ask = apart (take 8 (tests r ask)) (has r.property ask.property) (drop 9 (tests r ask))
lies_apart Priority r ask = apart (take 9 (tests r ask)) (has r.priority ask.priority) (drop 10 (tests r ask))
lies_apart Sender r ask = apart (take 10 (tests r ask)) (has r.sender ask.sender) (drop 11 (tests r ask))
lies_apart Station r ask = apart (take 11 (tests r ask)) (has r.station ask.station) (drop 12 (tests r ask))

-- and with other values for the field
pub lies_with : (field : FieldName) (region : Region) (values : Values) (ask : Ask) → lies (with_value field values region) ask ≡ (has values (value_of field ask) && lies_but field region ask)
lies_with Operation r v ask = apart (take 0 (tests r ask)) (has v ask.operation) (drop 1 (tests r ask))
lies_with Port r v ask = apart (take 1 (tests r ask)) (has v ask.port) (drop 2 (tests r ask))
lies_with SourceNetwork r v ask = apart (take 2 (tests r ask)) (has v ask.source_network) (drop 3 (tests r ask))
lies_with SourceKey r v ask = apart (take 3 (tests r ask)) (has v ask.source_key) (drop 4 (tests r ask))
lies_with DestinationNetwork r v ask = apart (take 4 (tests r ask)) (has v ask.destination_network) (drop 5 (tests r ask))
lies_with Service r v ask = apart (take 5 (tests r ask)) (has v ask.service) (drop 6 (tests r ask))
lies_with ObjectType r v ask = apart (take 6 (tests r ask)) (has v ask.object_type) (drop 7 (tests r ask))
lies_with Instance r v ask = apart (take 7 (tests r ask)) (has v ask.instance) (drop 8 (tests r ask))
lies_with Property r v ask = apart (take 8 (tests r ask)) (has v ask.property) (drop 9 (tests r ask))
lies_with Priority r v ask = apart (take 9 (tests r ask)) (has v ask.priority) (drop 10 (tests r ask))
lies_with Sender r v ask = apart (take 10 (tests r ask)) (has v ask.sender) (drop 11 (tests r ask))
lies_with Station r v ask = apart (take 11 (tests r ask)) (has v ask.station) (drop 12 (tests r ask))

-- ---- all fields

regroup : (l a r : Bool) → ((l && a) && r) ≡ (l && (a && r))
regroup true a r = refl
regroup false a r = refl

inside_law : (fields : List FieldName) (rule : Rule) (region : Region) (ask : Ask)
    → lies (inside fields rule region) ask ≡ (lies region ask && list_all (yes_at rule ask) fields)
inside_law [] rule region ask = elim (lies region ask) as (λ l. l ≡ (l && true)) [ true ↦ refl | false ↦ refl ]
inside_law (field ∷ fields) rule region ask =
    inside_law fields rule (inside_at field rule region) ask
    ∙ ap (λ b. b && list_all (yes_at rule ask) fields) (inside_at_law field rule region ask)
    ∙ regroup (lies region ask) (yes_at rule ask field) (list_all (yes_at rule ask) fields)

split_off : (l a r : Bool) → ((l && not a) || ((l && a) && not r)) ≡ (l && not (a && r))
split_off true true r = refl
split_off true false r = refl
split_off false a r = refl

pieces_law : (fields : List FieldName) (rule : Rule) (region : Region) (ask : Ask)
    → list_any (λ p. lies p ask) (pieces fields rule region) ≡ (lies region ask && not (list_all (yes_at rule ask) fields))
pieces_law [] rule region ask = sym (and_none (lies region ask))
pieces_law (field ∷ fields) rule region ask =
    let all = list_all (yes_at rule ask) fields in
    let next = inside_at field rule region in
    list_any-append (λ p. lies p ask) (piece_at field rule region) (pieces fields rule next)
    ∙ ap (λ b. b || list_any (λ p. lies p ask) (pieces fields rule next)) (piece_at_law field rule region ask)
    ∙ ap (λ b. (lies region ask && not (yes_at rule ask field)) || b)
    (pieces_law fields rule next ask ∙ ap (λ b. b && not all) (inside_at_law field rule region ask))
    ∙ split_off (lies region ask) (yes_at rule ask field) all

-- a rule parts a region exactly
pub is_parted : (rule : Rule) (region : Region) → IsParted rule region (inside ALL rule region) (pieces ALL rule region)
unfolding matches
is_parted rule region = record {
  inner = λ ask. inside_law ALL rule region ask;
  outer = λ ask. pieces_law ALL rule region ask;
}

-- ---- a step of the loop over the fields

pub pieces_step : (fields : List FieldName) (place : ℕ) (d : FieldName) (out new all : List Region) (rule : Rule) (region next : Region) → place < length fields
    → new ≡ out ++ piece_at (get_or fields place d) rule region → next ≡ inside_at (get_or fields place d) rule region
    → out ++ pieces (drop place fields) rule region ≡ all → new ++ pieces (drop (place + 1) fields) rule next ≡ all
pieces_step fields place d out new all rule region next within grown left is =
    let field = get_or fields place d in
    ap (λ (xs : List Region). xs ++ pieces (drop (place + 1) fields) rule next) grown
    ∙ append_assoc out (piece_at field rule region) (pieces (drop (place + 1) fields) rule next)
    ∙ ap (λ (r : Region). out ++ (piece_at field rule region ++ pieces (drop (place + 1) fields) rule r)) left
    ∙ sym (ap (λ (fs : List FieldName). out ++ pieces fs rule region) (next_item fields place d within)) ∙ is

pub inside_step : (fields : List FieldName) (place : ℕ) (d : FieldName) (rule : Rule) (region next all : Region) → place < length fields
    → next ≡ inside_at (get_or fields place d) rule region → inside (drop place fields) rule region ≡ all → inside (drop (place + 1) fields) rule next ≡ all
inside_step fields place d rule region next all within left is =
    ap (λ (r : Region). inside (drop (place + 1) fields) rule r) left
    ∙ sym (ap (λ (fs : List FieldName). inside fs rule region) (next_item fields place d within)) ∙ is

-- ---- two tests of each field

all_both : (one two both : FieldName → Bool) → ((field : FieldName) → both field ≡ (one field && two field)) → (fields : List FieldName)
    → list_all both fields ≡ (list_all one fields && list_all two fields)
all_both one two both is [] = refl
all_both one two both is (field ∷ fields) =
    ap (λ b. b && list_all both fields) (is field) ∙ ap (λ b. (one field && two field) && b) (all_both one two both is fields)
    ∙ by (one field) (two field) (list_all one fields) (list_all two fields)
  where
    by : (a b c d : Bool) → ((a && b) && (c && d)) ≡ ((a && c) && (b && d))
    by true true c d = refl
    by true false true d = refl
    by true false false d = refl
    by false b c d = refl

pub each_both : (one two both : FieldName → Bool) → ((field : FieldName) → both field ≡ (one field && two field))
    → each_field both ≡ (each_field one && each_field two)
each_both one two both is = all_both one two both is ALL

-- an ask lies in what the rule admits of a region if it lies there and the rule matches it
pub within_lies : (rule : Rule) (region made : Region)
    → ((field : FieldName) → value_of field made ≡ admitted (value_of field region) (ranges_of field rule))
    → (ask : Ask) → lies made ask ≡ (lies region ask && matches rule ask)
unfolding matches
within_lies rule region made is ask =
    each_both (λ field. has (value_of field region) (value_of field ask)) (λ field. yes_at rule ask field) (λ field. has (value_of field made) (value_of field ask))
    (λ field. ap (λ v. has v (value_of field ask)) (is field) ∙ admitted_law (value_of field region) (ranges_of field rule) (value_of field ask))
