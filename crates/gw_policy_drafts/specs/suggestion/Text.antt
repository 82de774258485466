-- The text of the rules that are suggested: a table for each, with what its comments say, and what is said after them.
use Rattle.std.specs.Prelude.{◌≡◌, ℕ, ◌+◌, ◌==◌, Bool, false, ◌&&◌, ◌||◌, not, min, if◌then◌else◌, List, [], ◌∷◌, ◌++◌, length, map}
use Rattle.std.specs.Prelude.{codes, decimal, slice_get}
use Rattle.std.specs.List.{flat_map, fold, list_all, list_any}
use Rattle.std.specs.Option.{option_map_or}
use Rattle.gw_configuration.specs.Configuration.{Configuration}
use Rattle.gw_configuration.specs.declared.assertion.Assertion.{Assertion}
use Rattle.gw_rules.specs.Ask.{Ask}
use Rattle.gw_rules.specs.Field.{field_key}
use Rattle.gw_rules.specs.Format.{names_stations}
use Rattle.gw_rules.specs.Operation.{operation_number}
use Rattle.gw_rules.specs.Range.{holds}
use Rattle.gw_rules.specs.Rule.{matches, ranges_of}
use Rattle.gw_rules.specs.declared.field.FieldName.{FieldName}
use Rattle.gw_rules.specs.declared.field.FieldName.TheVariants as fields
use Rattle.gw_rules.specs.declared.field.TheConstants.FieldName.{ALL}
use Rattle.gw_rules.specs.declared.format.Format.{Format}
use Rattle.gw_rules.specs.declared.operation.Operation.{Operation}
use Rattle.gw_rules.specs.declared.operation.Operation.TheVariants.{Cast, Route, Delete, Read, Write}
use Rattle.gw_rules.specs.declared.range.Range.{Range}
use Rattle.gw_rules.specs.declared.rule.Rule.{Rule}
use Rattle.gw_policy_drafts.specs.migration.Items.{field_line, field_text, operation_text, quoted_station}
use Rattle.gw_policy_drafts.specs.suggestion.Given.{is_open}
use Rattle.gw_policy_drafts.specs.declared.suggestion.given.Weighted.{Weighted}
use Rattle.gw_policy_drafts.specs.declared.suggestion.leaving.LeftOut.{LeftOut}
use Rattle.gw_policy_drafts.specs.declared.suggestion.text.DraftSite.{DraftSite}

-- ---- counts

-- a sum with a number more, if so; it goes no further than a number of 64 bits does
abbrev pub counted_on : ℕ → Bool → ℕ → ℕ
counted_on sum passes times = if passes then min (sum + times) 18446744073709551615 else sum

-- how often the asks were given that pass a test
unfoldable pub total : (Ask → Bool) → List Weighted → ℕ
total test asks = fold (λ sum each. counted_on sum (test each.ask) each.times) 0 asks

unfoldable pub counted_text : ℕ → (one many : List ℕ) → List ℕ
counted_text count one many = decimal count ++ (32 ∷ (if count == 1 then one else many))

-- ---- the comments of a rule

-- the rule is for asks of the operation
abbrev pub is_for : Rule → Operation → Bool
is_for rule operation = list_any (holds (operation_number operation)) (ranges_of fields.Operation rule)

-- all that it is for is bound for the device's network
abbrev pub is_own : ℕ → Rule → Bool
is_own network rule =
    not (length (ranges_of fields.DestinationNetwork rule) == 0)
    && list_all (λ (range : Range). (range.low == network) && (range.high == network)) (ranges_of fields.DestinationNetwork rule)

abbrev pub is_request : Rule → Bool
is_request rule = is_for rule Read || is_for rule Write

abbrev pub is_traffic : Rule → Bool
is_traffic rule = is_for rule Cast || is_for rule Route

-- an ask that is passed on, or deletes a registration, may name a station, under the third format
abbrev pub may_name_station : DraftSite → Rule → Bool
may_name_station place rule =
    names_stations place.format
    && (is_traffic rule || (is_for rule Delete || (is_request rule && not (is_own place.network rule))))

-- others of its operations have the field
abbrev pub matters : DraftSite → Rule → FieldName → Bool
matters place rule fields.DestinationNetwork = is_traffic rule || is_request rule
matters place rule fields.ObjectType = is_request rule
matters place rule fields.Instance = is_request rule
matters place rule fields.Property = is_request rule
matters place rule fields.Priority = is_for rule Write
matters place rule fields.Station = may_name_station place rule
matters place rule _ = false

unfoldable pub any_line : FieldName → List ℕ
any_line field = codes "# no " ++ (field_key field ++ codes ": any is allowed\n")

-- of a field that the rule doesn't name, and others of its operations have
unfoldable pub note_line : DraftSite → Rule → FieldName → List ℕ
note_line place rule field =
    if (length (ranges_of field rule) == 0) && matters place rule field then any_line field else []

-- of a rule without a source: the third format names stations of one to seven octets
unfoldable pub unnamed_line : Format → List ℕ
unnamed_line format =
    if names_stations format
    then codes "# no address of one to seven octets: the station can't be named, so its whole network is allowed\n"
    else codes "# no address of six octets: the station can't be named, so its whole network is allowed\n"

unfoldable pub source_line : Format → Rule → List ℕ
source_line format rule = if length (ranges_of fields.SourceKey rule) == 0 then unnamed_line format else []

abbrev pub notes_text : DraftSite → Rule → List ℕ
notes_text place rule = source_line place.format rule ++ flat_map (note_line place rule) ALL

-- how many asks the rule is for
unfoldable pub asks_line : Rule → List Weighted → List ℕ
asks_line rule asks = codes "# " ++ (counted_text (total (matches rule) asks) (codes "ask") (codes "asks") ++ 10 ∷ [])

-- ---- its table

-- a value of a field as formats 1 and 2 write it
abbrev pub plain_value : FieldName → ℕ → List ℕ
plain_value fields.Operation number = operation_text number
plain_value fields.SourceKey number = quoted_station number
plain_value fields.Sender number = quoted_station number
plain_value fields.Station number = quoted_station number
plain_value _ number = decimal number

unfoldable pub plain_item : FieldName → Range → List ℕ
plain_item field range =
    if range.low == range.high then plain_value field range.low
    else 91 ∷ (plain_value field range.low ++ (44 ∷ 32 ∷ (plain_value field range.high ++ 93 ∷ [])))

abbrev pub next_plain_item : FieldName → Range → List ℕ
next_plain_item field range = 44 ∷ 32 ∷ plain_item field range

unfoldable pub plain_items : FieldName → List Range → List ℕ
plain_items field [] = []
plain_items field (range ∷ ranges) = plain_item field range ++ flat_map (next_plain_item field) ranges

abbrev pub plain_line : FieldName → List Range → List ℕ
plain_line field ranges =
    if length ranges == 0 then []
    else field_key field ++ (codes " = [" ++ (plain_items field ranges ++ (93 ∷ 10 ∷ [])))

unfoldable pub ranges_line : Format → Rule → FieldName → List ℕ
ranges_line format rule field =
    if names_stations format then field_line field (ranges_of field rule) else plain_line field (ranges_of field rule)

unfoldable pub table_text : Format → Rule → List ℕ
table_text format rule =
    codes "[[rule]]\nname = \"" ++ (rule.name ++ (codes "\"\nallow = true\n" ++ (flat_map (ranges_line format rule) ALL ++ 10 ∷ [])))

unfoldable pub rule_text : DraftSite → List Weighted → Rule → List ℕ
rule_text place asks rule = asks_line rule asks ++ (notes_text place rule ++ table_text place.format rule)

-- ---- the rules that are left out

-- the rules that are left out, each for an assertion
abbrev pub rules_of : List LeftOut → List Rule
rules_of left = map (λ l. l.rule) left

-- the name of the assertion at a place, or nothing
abbrev pub asserted_name : List Assertion → ℕ → List ℕ
asserted_name assertions place = option_map_or (λ a. a.name) (slice_get assertions place) []

-- the line of a field that it names
unfoldable pub commented_line : FieldName → List Range → List ℕ
commented_line field ranges = if length ranges == 0 then [] else codes "# " ++ (field_text field ranges ++ 10 ∷ [])

abbrev pub left_ranges : Rule → FieldName → List ℕ
left_ranges rule field = commented_line field (ranges_of field rule)

-- its table, as comments
unfoldable pub left_table : Rule → List ℕ
left_table rule =
    codes "# [[rule]]\n# name = \"" ++ (rule.name ++ (codes "\"\n# allow = true\n" ++ (flat_map (left_ranges rule) ALL ++ 10 ∷ [])))

unfoldable pub left_line : List ℕ → List ℕ
left_line name = codes "# left out, since it would break the assertion \"" ++ (name ++ codes "\"\n")

unfoldable pub left_text : List Assertion → List Weighted → LeftOut → List ℕ
left_text assertions asks left =
    asks_line left.rule asks ++ (left_line (asserted_name assertions left.assertion) ++ left_table left.rule)

-- ---- what is said after the rules

unfoldable pub apart_line : ℕ → List ℕ
apart_line apart =
    if apart == 0 then []
    else codes "# " ++ (decimal apart ++ codes " groups of asks were left apart after 65536 looks: some of these rules may be one\n")

unfoldable pub open_asks_line : ℕ → List ℕ
open_asks_line open_asks =
    codes "# " ++ (counted_text open_asks (codes "read or write") (codes "reads or writes")
    ++ codes " without an object, a property or a priority: a rule would allow each, so there is none\n")

unfoldable pub open_line : ℕ → List ℕ
open_line open_asks = if open_asks == 0 then [] else open_asks_line open_asks

unfoldable pub unread_line : ℕ → List ℕ
unread_line unread =
    if unread == 0 then []
    else codes "# " ++ (counted_text unread (codes "line shows") (codes "lines show") ++ codes " no ask\n")

unfoldable pub none_line : (kept : List Rule) → List LeftOut → ℕ → List ℕ
none_line kept left open_asks =
    if (length kept == 0) && ((length left == 0) && (open_asks == 0)) then codes "# no ask is denied: there is nothing to suggest\n" else []

unfoldable pub last_text : (open_asks apart unread : ℕ) → List ℕ
last_text open_asks apart unread = apart_line apart ++ (open_line open_asks ++ unread_line unread)

-- ---- the whole

-- of these rules for asks that were given so often, of those that are left out, and of so many groups that were left apart
-- and lines without an ask
abbrev pub suggestion_text : DraftSite → List Assertion → (kept : List Rule) → List LeftOut → List Weighted → (apart unread : ℕ)
    → List ℕ
suggestion_text place assertions kept left asks apart unread =
    none_line kept left (total is_open asks)
    ++ (flat_map (rule_text place asks) kept
    ++ (flat_map (left_text assertions asks) left ++ last_text (total is_open asks) apart unread))

-- whose rules they are
abbrev pub place_of : Configuration → DraftSite
place_of c = record { format = c.format; network = c.device.network }

-- The text is of these rules and of those that are left out, and its comments are about these asks, each given so often.
pub record IsTextOf (place : DraftSite) (assertions : List Assertion) (kept : List Rule) (left : List LeftOut) (asks : List Ask)
    (text : List ℕ) : Type 0 where
  pub weighted : List Weighted
  pub are_asks : map (λ each. each.ask) weighted ≡ asks
  pub apart : ℕ
  pub unread : ℕ
  pub is : text ≡ suggestion_text place assertions kept left weighted apart unread
