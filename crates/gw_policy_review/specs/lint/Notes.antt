-- Notes on rules that may not mean what they say. Each says when it is made; none is a theorem about the gateway.
use Rattle.std.specs.Prelude.{◌≡◌, ℕ, ◌+◌, Bool, true, false, not, ◌&&◌, ◌||◌, ◌==◌, nat_lt, if◌then◌else◌, List, [], ◌∷◌, ◌++◌, length}
use Rattle.std.specs.Prelude.{find, codes, decimal, position}
use Rattle.std.specs.List.{filter, flat_map, list_any}
use Rattle.std.specs.Option.{option_map_or}
use Rattle.gw_addr.specs.Address.{text_of}
use Rattle.gw_configuration.specs.Configuration.{Configuration}
use Rattle.gw_configuration.specs.declared.port.Port.{Port}
use Rattle.gw_rules.specs.Field.{field_key}
use Rattle.gw_rules.specs.Format.{names_stations}
use Rattle.gw_rules.specs.Operation.{operation_number}
use Rattle.gw_rules.specs.Range.{holds}
use Rattle.gw_rules.specs.Rule.{ranges_of}
use Rattle.gw_rules.specs.declared.field.FieldName.{FieldName}
use Rattle.gw_rules.specs.declared.field.TheConstants.FieldName.{ALL}
use Rattle.gw_rules.specs.declared.operation.Operation.TheVariants.{Cast, Route}
use Rattle.gw_rules.specs.declared.range.Range.{Range}
use Rattle.gw_rules.specs.declared.rule.Rule.{Rule}
use Rattle.gw_ask_sets.specs.shapes.Meeting.{overlaps}
use Rattle.gw_script.specs.Order.{in_order}
use Rattle.gw_policy_review.specs.lint.Passage.{ArePassages, answers, opener, opens, passes, requests, shapes_for, unnamed_shapes}
use Rattle.gw_policy_review.specs.permissions.Passing.{IsPassage, is_never}
use Rattle.gw_policy_review.specs.permissions.Texts.{AreInTurn}
use Rattle.gw_ask_sets.specs.declared.shapes.search.Outcome.{Outcome}
use Rattle.gw_ask_sets.specs.declared.shapes.search.Outcome.TheVariants as outcome
use Rattle.gw_ask_sets.specs.shapes.Shape.{Shape}
use Rattle.gw_policy_review.specs.lint.Text.{rule_text}
use Rattle.gw_policy_review.specs.lint.Trust.{ending_words, is_open_end, is_open_for, is_source_alone, is_source_network_alone, port_words}
use Rattle.gw_policy_review.specs.lint.Trust.{reach_words, source_words}
use Rattle.gw_policy_review.specs.warnings.Oversights.{admits_number, is_station, share}

-- `note: rule <number> <name>: look at <words>` and a line feed
abbrev pub head_text : Configuration → (lines : List ℕ) → ℕ → List ℕ
head_text c lines number = codes "note: " ++ rule_text c lines number ++ codes ": look at "

abbrev pub note_text : Configuration → (lines : List ℕ) → ℕ → List ℕ → List ℕ
note_text c lines number words = head_text c lines number ++ words ++ 10 ∷ []

-- ---- a source network that nobody has

-- a network of the device, of a port or of a route
abbrev pub is_known : Configuration → ℕ → Bool
is_known c network =
    (c.device.network == network) || (list_any (λ port. port.network == network) c.ports
    || list_any (λ route. route.network == network) c.routes)

-- a range of one number, which is no such network
abbrev pub is_unknown : Configuration → Range → Bool
is_unknown c range = (range.low == range.high) && not (is_known c range.low)

abbrev pub network_words : Range → List ℕ
network_words range =
    codes "source_network: " ++ decimal range.low ++ codes " is of no port, no route and not the device's"

-- the first range of the rule's source networks that is so
abbrev pub network_note : Configuration → (lines : List ℕ) → ℕ → Rule → List ℕ
network_note c lines number rule =
    option_map_or (λ range. note_text c lines number (network_words range))
    (find (is_unknown c) rule.ranges.source_network) []

-- ---- ranges that overlap

-- a range has numbers in common with more of these ranges than itself
abbrev pub has_overlap : List Range → Bool
has_overlap ranges = list_any (λ range. nat_lt 1 (length (filter (overlaps range) ranges))) ranges

abbrev pub overlap_words : FieldName → List ℕ
overlap_words field = field_key field ++ codes ": two of its ranges overlap"

-- for each field in which two ranges of the rule overlap
abbrev pub overlap_note : Configuration → (lines : List ℕ) → ℕ → Rule → FieldName → List ℕ
overlap_note c lines number rule field =
    if has_overlap (ranges_of field rule) then note_text c lines number (overlap_words field) else []

abbrev pub overlap_notes : Configuration → (lines : List ℕ) → ℕ → Rule → List ℕ
overlap_notes c lines number rule = flat_map (overlap_note c lines number rule) ALL

-- ---- requests without an object

-- what is found of such requests to another network than the device's, if messages are routed at all; so many steps are left before,
-- and after
abbrev pub unnamed_if : Bool → Configuration → List Shape → List Shape
unnamed_if routes c shapes = if routes then unnamed_shapes c.device.network shapes else []

pub record AreUnnamed (c : Configuration) (shapes : List Shape) (left rest : ℕ) (unnamed : List Outcome) : Type 0 where
  pub routed : Outcome
  pub between : ℕ
  pub is_routed : IsPassage (shapes_for Route shapes) c.rules left between routed
  pub are_found : ArePassages c.rules (unnamed_if (passes routed) c shapes) between rest unnamed

-- some were found to pass by the rule of this number
abbrev pub lets_unnamed : List Outcome → Configuration → ℕ → Bool
lets_unnamed unnamed c number = list_any (opens c.rules number) unnamed

abbrev pub object_note : List Outcome → Configuration → (lines : List ℕ) → ℕ → List ℕ
object_note unnamed c lines number =
    if lets_unnamed unnamed c number
    then note_text c lines number (codes "object_type: without one, requests pass that name no object")
    else []

-- ---- requests without answers

abbrev pub answer_words : ℕ → ℕ → List ℕ
answer_words one other =
    codes "the way back: requests from network " ++ decimal one ++ codes " to network " ++ decimal other
    ++ codes " may pass, their answers (services 1026 to 1031) may not"

-- a note on the rule by which such a request was found to pass
abbrev pub way_note : Configuration → (lines : List ℕ) → (one other : ℕ) → Outcome → List ℕ
way_note c lines one other found =
    option_map_or (λ by. note_text c lines by (answer_words one other)) (opener c.rules found) []

-- where no answer passes back, requests are searched
abbrev pub IsWay : Configuration → (lines : List ℕ) → ℕ → Port → Port → (back : Outcome) → (left rest : ℕ) → List ℕ → Type 0
IsWay c lines number port other outcome.Never left rest text =
    (found : Outcome) × IsPassage (requests c.format number port other.network ∷ []) c.rules left rest found
    × (text ≡ way_note c lines port.network other.network found)
IsWay c lines number port other back left rest text = (rest ≡ left) × (text ≡ [])

-- for the ports of two networks, where requests are found to pass from the one to the other, and none of the answers to pass back
abbrev pub IsAnswerNote : (is_same : Bool) → Configuration → (lines : List ℕ) → ℕ → Port → ℕ → Port → (left rest : ℕ) → List ℕ → Type 0
IsAnswerNote true c lines number port other_number other left rest text = (rest ≡ left) × (text ≡ [])
IsAnswerNote false c lines number port other_number other left rest text =
    (back : Outcome) × (between : ℕ) × IsPassage (answers c.format other_number other port.network ∷ []) c.rules left between back
    × IsWay c lines number port other back between rest text

abbrev pub IsNoteOnAnswers : Configuration → (lines : List ℕ) → ℕ → Port → ℕ → Port → (left rest : ℕ) → List ℕ → Type 0
IsNoteOnAnswers c lines number port other_number other left rest text =
    IsAnswerNote (port.network == other.network) c lines number port other_number other left rest text

abbrev pub AreAnswerNotes : Configuration → (lines : List ℕ) → ℕ → Port → (left rest : ℕ) → List ℕ → Type 0
AreAnswerNotes c lines number port left rest text = AreInTurn (IsNoteOnAnswers c lines number port) 1 c.ports left rest text

-- ---- what anyone may say (`Trust.antt`)

-- a source without its network or a sender
abbrev pub source_note : Configuration → (lines : List ℕ) → ℕ → Rule → List ℕ
source_note c lines number rule =
    if is_source_alone rule then note_text c lines number (source_words c.format) else []

-- a source network without a source or a sender: in formats 1 and 2 anyone may be of that; in format 3 where it is
-- that of a port without stations, the first of which is named
abbrev pub reached_note : Configuration → (lines : List ℕ) → ℕ → List Range → List ℕ
reached_note c lines number ranges =
    if names_stations c.format
    then option_map_or (λ place. note_text c lines number (port_words (place + 1)))
    (position (is_open_for ranges) c.ports) []
    else note_text c lines number reach_words

abbrev pub reach_note : Configuration → (lines : List ℕ) → ℕ → Rule → List ℕ
reach_note c lines number rule =
    if is_source_network_alone rule then reached_note c lines number rule.ranges.source_network else []

-- the last rule without fields
abbrev pub ending_note : Configuration → (lines : List ℕ) → ℕ → Rule → List ℕ
ending_note c lines number rule =
    if is_open_end c.rules number rule then note_text c lines number (ending_words c.format) else []

abbrev pub trust_notes : Configuration → (lines : List ℕ) → ℕ → Rule → List ℕ
trust_notes c lines number rule = source_note c lines number rule ++ reach_note c lines number rule ++ ending_note c lines number rule

-- ---- stations without the broadcast address

-- a subnet of the port's stations has its own address, and none has its broadcast address
abbrev pub lacks_broadcast : Port → Bool
lacks_broadcast port = is_station port port.address && not (is_station port port.broadcast)

abbrev pub stations_words : ℕ → Port → List ℕ
stations_words number port =
    codes "note: look at port " ++ (decimal number ++ (codes ": stations: none of them has its broadcast address "
    ++ (text_of port.broadcast ++ codes ", though one has its own\n")))

abbrev pub stations_note : ℕ → Port → List ℕ
stations_note number port = if lacks_broadcast port then stations_words number port else []

-- those of a port
abbrev pub ArePortNotes : Configuration → (lines : List ℕ) → ℕ → Port → (left rest : ℕ) → List ℕ → Type 0
ArePortNotes c lines number port left rest text =
    (answers : List ℕ) × AreAnswerNotes c lines number port left rest answers × (text ≡ stations_note number port ++ answers)

-- ---- broadcasts to all networks

-- I-Am and I-Have, Who-Has and Who-Is (clause 21)
abbrev pub discovery : List Range
discovery = record { low = 256; high = 257 } ∷ record { low = 263; high = 264 } ∷ []

-- A rule lets broadcasts by which devices are found pass to networks that it names, and all networks (65535) aren't among these.
abbrev pub discovers_some : Rule → Bool
discovers_some rule =
    rule.allow && (list_any (holds (operation_number Cast)) rule.ranges.operation && (share discovery rule.ranges.service
    && not (admits_number 65535 rule.ranges.destination_network)))

-- two rules may match asks from one place, as to these fields
abbrev pub are_from_one : Rule → Rule → Bool
are_from_one rule other =
    share rule.ranges.port other.ranges.port && (share rule.ranges.source_network other.ranges.source_network
    && (share rule.ranges.source_key other.ranges.source_key && share rule.ranges.sender other.ranges.sender))

-- another one lets some of them pass to all networks
abbrev pub discovers_all : Rule → Rule → Bool
discovers_all rule other =
    other.allow && (admits_number (operation_number Cast) other.ranges.operation && (share rule.ranges.service other.ranges.service
    && (admits_number 65535 other.ranges.destination_network && are_from_one rule other)))

abbrev pub discovery_note : Configuration → (lines : List ℕ) → ℕ → Rule → List ℕ
discovery_note c lines number rule =
    if discovers_some rule && not (list_any (discovers_all rule) c.rules)
    then note_text c lines number (codes "destination: no rule lets these broadcasts pass to all networks (65535)") else []

-- ---- broadcasts

-- where some are distributed, and each was found to be denied
abbrev pub cast_note : (distributed : List Shape) → (found : Outcome) → List ℕ
cast_note distributed found =
    if (length distributed == 0) || not (is_never found) then []
    else codes "note: look at cast: no rule allows it, so no broadcast reaches a peer or a foreign device" ++ 10 ∷ []

abbrev pub IsCastNote : List Shape → Configuration → (left rest : ℕ) → List ℕ → Type 0
IsCastNote shapes c left rest text =
    (found : Outcome) × IsPassage (shapes_for Cast shapes) c.rules left rest found
    × (text ≡ cast_note (shapes_for Cast shapes) found)

-- ---- all of them

-- on what a rule may not match as it reads
abbrev pub field_notes : List Outcome → Configuration → (lines : List ℕ) → ℕ → Rule → List ℕ
field_notes unnamed c lines number rule =
    network_note c lines number rule ++ overlap_notes c lines number rule ++ object_note unnamed c lines number

-- those of a rule
abbrev pub rule_notes : List Outcome → Configuration → (lines : List ℕ) → ℕ → Rule → List ℕ
rule_notes unnamed c lines number rule =
    field_notes unnamed c lines number rule ++ (trust_notes c lines number rule ++ discovery_note c lines number rule)

-- rule by rule, then port by port, and then that on broadcasts, over the shapes of the configuration: the searches for all of them share
-- 262,144 steps
pub record AreNotes (shapes : List Shape) (c : Configuration) (lines text : List ℕ) : Type 0 where
  pub unnamed : List Outcome
  pub after_unnamed : ℕ
  pub are_unnamed : AreUnnamed c shapes 262144 after_unnamed unnamed
  pub ports : List ℕ
  pub after_ports : ℕ
  pub are_ports : AreInTurn (ArePortNotes c lines) 1 c.ports after_unnamed after_ports ports
  pub casts : List ℕ
  pub rest : ℕ
  pub are_casts : IsCastNote shapes c after_ports rest casts
  pub shown : text ≡ in_order (rule_notes unnamed c lines) 1 c.rules ++ (ports ++ casts)
