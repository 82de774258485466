-- The page that shows a configuration.
use Rattle.std.specs.Prelude.{◌≡◌, ℕ, ◌+◌, ◌-◌, ◌==◌, Bool, false, if◌then◌else◌, List, [], ◌∷◌, ◌++◌, length, codes, decimal}
use Rattle.std.specs.Prelude.{Option, Some, None, slice_get, unwrap_or}
use Rattle.std.specs.List.{flat_map, list_all}
use Rattle.std.specs.Option.{option_and_then, option_map_or}
use Rattle.gw_codecs.specs.names.Names.{object_type_name}
use Rattle.gw_configuration.specs.Configuration.{Configuration}
use Rattle.gw_configuration.specs.declared.assertion.Assertion.{Assertion}
use Rattle.gw_configuration.specs.Kinds.{type_number}
use Rattle.gw_configuration.specs.declared.object.Object.{Object}
use Rattle.gw_configuration.specs.declared.port.Port.{Port as ConfiguredPort}
use Rattle.gw_rules.specs.Operation.{operation_name}
use Rattle.gw_rules.specs.Rule.{ranges_of}
use Rattle.gw_rules.specs.declared.field.FieldName.{FieldName}
use Rattle.gw_rules.specs.declared.field.TheConstants.FieldName.{ALL as all_fields}
use Rattle.gw_rules.specs.declared.operation.Operation.{Operation}
use Rattle.gw_rules.specs.declared.operation.TheConstants.Operation.{ALL as all_operations}
use Rattle.gw_rules.specs.declared.rule.Rule.{Rule}
use Rattle.gw_script.specs.Order.{in_order}
use Rattle.gw_ask_sets.specs.assertions.Judging.{AreJudged}
use Rattle.gw_ask_sets.specs.declared.assertions.judging.Judged.{Judged}
use Rattle.gw_ask_sets.specs.declared.assertions.judging.Judged.TheVariants.{Holds, Broken, Empty, Unknown}
use Rattle.gw_ask_sets.specs.shapes.Shape.{Shape}
use Rattle.gw_ask_sets.specs.shapes.Shapes.{shapes}
use Rattle.gw_policy_drafts.specs.migration.Items.{field_text}
use Rattle.gw_policy_review.specs.Places.{is_derived, place_words}
use Rattle.gw_policy_review.specs.permissions.Texts.{AreInTurn}
use Rattle.gw_report.specs.Access.{IsCell, asked_shapes}
use Rattle.gw_report.specs.declared.passing.Extent.{Extent}
use Rattle.gw_report.specs.declared.passing.Extent.TheVariants as extent
use Rattle.gw_report.specs.declared.access.Whence.{Whence}
use Rattle.gw_report.specs.declared.access.Whence.TheVariants.{Port, Beyond}
use Rattle.gw_report.specs.declared.page.element.PageElement.TheVariants as element
use Rattle.gw_report.specs.declared.page.mark.Mark.TheVariants as mark
use Rattle.gw_report.specs.page.Elements.{begin_text, close_text, element_text, number_cell, open_text}
use Rattle.gw_report.specs.page.Escape.{escaped}
use Rattle.gw_report.specs.page.Mark.{mark_text}
use Rattle.gw_report.specs.page.Page.{IsPage}

-- ---- the head

abbrev pub title_of : Configuration → List ℕ
title_of c = codes "BACnet/IP gateway: " ++ c.device.name

-- a text of the configuration as a paragraph, unless it is empty
unfoldable pub paragraph : List ℕ → List ℕ
paragraph text = if length text == 0 then [] else element_text element.Paragraph text

-- how much the configuration has
unfoldable pub ways_text : Configuration → List ℕ
ways_text c =
    decimal (length c.ports) ++ (escaped (codes " ports, ") ++ (decimal (length c.routes) ++ escaped (codes " routes, ")))

unfoldable pub policy_text : Configuration → List ℕ
policy_text c =
    decimal (length c.objects) ++ (escaped (codes " objects, ") ++ (decimal (length c.rules) ++ escaped (codes " rules.")))

unfoldable pub announced_text : Bool → List ℕ
announced_text announces = if announces then escaped (codes " Networks are announced.") else []

unfoldable pub sizes_text : Configuration → List ℕ
sizes_text c =
    open_text element.Aside ++ (ways_text c ++ (policy_text c ++ (announced_text c.announce ++ close_text element.Aside)))

-- the title with the name of the device, its description, and how much there is
unfoldable pub head_text : Configuration → List ℕ
head_text c =
    begin_text (title_of c) ++ (element_text element.Title (title_of c) ++ (paragraph c.device.description ++ sizes_text c))

-- ---- who may do what

-- the networks of the ports, each with the port's number, counted on
abbrev pub own_from : ℕ → List ConfiguredPort → List Whence
own_from number [] = []
own_from number (p ∷ ports) = Port number p.network ∷ own_from (number + 1) ports

abbrev pub own_of : Configuration → List Whence
own_of c = own_from 1 c.ports

-- `network 1 (port 1)`
unfoldable pub whence_text : Whence → List ℕ
whence_text (Port number network) =
    codes "network " ++ (decimal network ++ (codes " (port " ++ (decimal number ++ codes ")")))
whence_text Beyond = codes "other networks"

unfoldable pub extent_cell : Option Extent → List ℕ
extent_cell None = element_text element.Cell (codes "-")
extent_cell (Some extent.Nothing) = element_text element.Nothing (codes "none")
extent_cell (Some extent.Some) = element_text element.Some (codes "some")
extent_cell (Some extent.All) = element_text element.All (codes "all")
extent_cell (Some extent.Unknown) = element_text element.Some (codes "some?")

-- the cell of a row and an operation
abbrev pub IsCellText : List Rule → List Whence → List Shape → Whence → Operation → (left rest : ℕ) → List ℕ → Type 0
IsCellText rules own those whence operation left rest text =
    (cell : Option Extent) × IsCell (asked_shapes own those whence operation) rules left rest cell × (text ≡ extent_cell cell)

abbrev pub AreCells : List Rule → List Whence → List Shape → Whence → (left rest : ℕ) → List ℕ → Type 0
AreCells rules own those whence left rest text =
    AreInTurn (λ place operation. IsCellText rules own those whence operation) 1 all_operations left rest text

unfoldable pub row_text : Whence → (cells : List ℕ) → List ℕ
row_text whence cells =
    open_text element.Row ++ (element_text element.Head (whence_text whence) ++ (cells ++ close_text element.Row))

abbrev pub IsRow : List Rule → List Whence → List Shape → Whence → (left rest : ℕ) → List ℕ → Type 0
IsRow rules own those whence left rest text =
    (cells : List ℕ) × AreCells rules own those whence left rest cells × (text ≡ row_text whence cells)

unfoldable pub operation_head : Operation → List ℕ
operation_head operation = element_text element.Head (operation_name operation)

unfoldable pub access_head : List ℕ
access_head =
    open_text element.Row
    ++ (element_text element.Head (codes "from") ++ (flat_map operation_head all_operations ++ close_text element.Row))

-- a row for the network of each port, and one for all others; a column for each operation
unfoldable pub table_text : (rows last : List ℕ) → List ℕ
table_text rows last = open_text element.Table ++ (access_head ++ (rows ++ (last ++ close_text element.Table)))

abbrev pub legend_text : List ℕ
legend_text = element_text element.Aside (codes "Each row is a network from which asks come, each column an operation. all: each such ask is allowed; some: one is allowed, and one denied; none: each is denied; some?: not known, since the search used up its steps; a dash: the gateway raises no such ask.")

-- The table, each cell of which shows what is found of its asks. All searches for them share 262,144 steps.
pub record IsTable (rules : List Rule) (own : List Whence) (those : List Shape) (text : List ℕ) : Type 0 where
  pub between : ℕ
  pub rows : List ℕ
  pub are_rows : AreInTurn (λ place whence. IsRow rules own those whence) 1 own 262144 between rows
  pub rest : ℕ
  pub last : List ℕ
  pub is_last : IsRow rules own those Beyond between rest last
  pub whole : text ≡ table_text rows last

unfoldable pub access_text : (table : List ℕ) → List ℕ
access_text table = element_text element.Heading (codes "Who may do what") ++ (legend_text ++ table)

abbrev pub IsAccess : Configuration → List ℕ → Type 0
IsAccess c text = (table : List ℕ) × IsTable c.rules (own_of c) (shapes c) table × (text ≡ access_text table)

-- ---- the rules

-- a cell with how often a log shows that a rule denied, by the rule's place; a log doesn't show it of a quiet rule
unfoldable pub count_cell : (quiet : Bool) → List ℕ → ℕ → List ℕ
count_cell quiet times place =
    if quiet then element_text element.Cell (codes "not logged")
    else number_cell (option_map_or (λ count. count) (slice_get times place) 0)

-- the same, if the counts of a log are shown
unfoldable pub times_cell : (shows : Bool) → (quiet : Bool) → List ℕ → ℕ → List ℕ
times_cell shows quiet times place = if shows then count_cell quiet times place else []

unfoldable pub denied_cell : (quiet : Bool) → List ℕ
denied_cell quiet =
    if quiet then element_text element.Nothing (codes "deny (quiet)") else element_text element.Nothing (codes "deny")

unfoldable pub decision_cell : (allow quiet : Bool) → List ℕ
decision_cell allow quiet = if allow then element_text element.All (codes "allow") else denied_cell quiet

-- what the rule says of a field, if it names it
unfoldable pub field_code : Rule → FieldName → List ℕ
field_code rule field =
    if length (ranges_of field rule) == 0 then [] else element_text element.Code (field_text field (ranges_of field rule))

-- the rule names no field
abbrev pub is_bare : Rule → Bool
is_bare rule = list_all (λ field. length (ranges_of field rule) == 0) all_fields

unfoldable pub each_text : Rule → List ℕ
each_text rule = if is_bare rule then escaped (codes "each") else []

unfoldable pub fields_cell : Rule → List ℕ
fields_cell rule =
    open_text element.Cell ++ (flat_map (field_code rule) all_fields ++ (each_text rule ++ close_text element.Cell))

-- the note at a place, or nothing
abbrev pub note_at : List (List ℕ) → ℕ → List ℕ
note_at notes place = option_map_or (λ note. note) (slice_get notes place) []

-- the note of the rule of this number, or that it is for the way or for the answers of the one before it
abbrev pub note_text : Configuration → ℕ → List ℕ
note_text c number = if is_derived c.tables number then codes "by both_ways" else note_at c.notes (number - 1)

-- its name, with the place of its table, where that has another number; the tables begin on these lines of the text
abbrev pub placed_name : Configuration → (lines : List ℕ) → ℕ → Rule → List ℕ
placed_name c lines number rule = rule.name ++ place_words c.tables lines number

unfoldable pub rule_cells : Configuration → (lines : List ℕ) → ℕ → Rule → List ℕ
rule_cells c lines number rule =
    element_text element.Cell (placed_name c lines number rule) ++ (decision_cell rule.allow rule.quiet
    ++ (fields_cell rule ++ element_text element.Cell (note_text c number)))

-- the row of the rule of this number
unfoldable pub rule_row : Configuration → (lines : List ℕ) → (shows : Bool) → (times : List ℕ) → ℕ → Rule → List ℕ
rule_row c lines shows times number rule =
    open_text element.Row ++ (number_cell number ++ (rule_cells c lines number rule
    ++ (times_cell shows rule.quiet times (number - 1) ++ close_text element.Row)))

unfoldable pub counted_head : Bool → List ℕ
counted_head shows = if shows then element_text element.Head (codes "denials") else []

unfoldable pub rules_columns : List ℕ
rules_columns =
    element_text element.Head [] ++ (element_text element.Head (codes "name") ++ (element_text element.Head (codes "decision")
    ++ (element_text element.Head (codes "asks that it matches") ++ element_text element.Head (codes "note"))))

unfoldable pub rules_head : Bool → List ℕ
rules_head shows = open_text element.Row ++ (rules_columns ++ (counted_head shows ++ close_text element.Row))

unfoldable pub default_cells : List ℕ
default_cells =
    element_text element.Cell [] ++ (element_text element.Cell (codes "default") ++ (decision_cell false false
    ++ (element_text element.Cell (codes "those that no rule matches") ++ element_text element.Cell [])))

-- the row of the asks that no rule matches, whose count is after those of so many rules
unfoldable pub default_row : (shows : Bool) → (times : List ℕ) → ℕ → List ℕ
default_row shows times count = open_text element.Row ++ (default_cells ++ (times_cell shows false times count ++ close_text element.Row))

unfoldable pub rules_table : Configuration → (lines : List ℕ) → (shows : Bool) → (times : List ℕ) → List ℕ
rules_table c lines shows times =
    open_text element.Table ++ (rules_head shows ++ (in_order (rule_row c lines shows times) 1 c.rules
    ++ (default_row shows times (length c.rules) ++ close_text element.Table)))

-- the rules in their order, each with the place of its table, what it says and its note
unfoldable pub rules_text : Configuration → (lines : List ℕ) → (shows : Bool) → (times : List ℕ) → List ℕ
rules_text c lines shows times =
    element_text element.Heading (codes "Rules")
    ++ (element_text element.Aside (codes "The first rule that matches an ask decides it. If none matches, it is denied.")
    ++ rules_table c lines shows times)

-- ---- the assertions

-- the name of the rule of a number, or of none
abbrev pub rule_name : List Rule → Option ℕ → List ℕ
rule_name rules by =
    option_map_or (λ rule. rule.name) (option_and_then (λ number. slice_get rules (number - 1)) by) (codes "default")

unfoldable pub broken_words : Bool → List ℕ
broken_words is_allowed =
    if is_allowed then escaped (codes "broken: an ask is allowed by ") else escaped (codes "broken: an ask is denied by ")

unfoldable pub broken_cell : List Rule → Option ℕ → Bool → List ℕ
broken_cell rules by is_allowed =
    open_text element.Nothing ++ (broken_words is_allowed ++ (escaped (rule_name rules by) ++ close_text element.Nothing))

-- what is found of an assertion
unfoldable pub judged_cell : List Rule → Judged → List ℕ
judged_cell rules Holds = element_text element.All (codes "holds")
judged_cell rules (Broken ask by is_allowed) = broken_cell rules by is_allowed
judged_cell rules Empty = element_text element.Nothing (codes "empty: no ask is meant")
judged_cell rules Unknown = element_text element.Some (codes "unknown")

-- what is found of the assertion at a place; it is unknown if nothing is
abbrev pub judged_at : List Judged → ℕ → Judged
judged_at judged place = option_map_or (λ one. one) (slice_get judged place) Unknown

-- what it says of the asks that it means
unfoldable pub asserted_cell : Bool → List ℕ
asserted_cell is_allowed =
    if is_allowed then element_text element.Cell (codes "allowed") else element_text element.Cell (codes "denied")

unfoldable pub assertion_cells : Assertion → List ℕ
assertion_cells assertion = element_text element.Cell assertion.name ++ asserted_cell assertion.is_allowed

-- the row of the assertion of this number
unfoldable pub assertion_row : List Rule → List Judged → ℕ → Assertion → List ℕ
assertion_row rules judged number assertion =
    open_text element.Row ++ (number_cell number ++ (assertion_cells assertion
    ++ (judged_cell rules (judged_at judged (number - 1)) ++ (element_text element.Cell assertion.note ++ close_text element.Row))))

unfoldable pub assertions_columns : List ℕ
assertions_columns =
    element_text element.Head [] ++ (element_text element.Head (codes "name") ++ (element_text element.Head (codes "is to be")
    ++ (element_text element.Head (codes "is found") ++ element_text element.Head (codes "note"))))

unfoldable pub assertions_head : List ℕ
assertions_head = open_text element.Row ++ (assertions_columns ++ close_text element.Row)

unfoldable pub assertions_table : List Rule → List Judged → List Assertion → List ℕ
assertions_table rules judged assertions =
    element_text element.Heading (codes "Assertions") ++ (open_text element.Table
    ++ (assertions_head ++ (in_order (assertion_row rules judged) 1 assertions ++ close_text element.Table)))

-- the assertions in their order, each with what is found of it, if there are such
abbrev pub assertions_text : Configuration → List Judged → List ℕ
assertions_text c judged = if length c.assertions == 0 then [] else assertions_table c.rules judged c.assertions

-- ---- the objects

unfoldable pub object_row : Object → List ℕ
object_row object =
    open_text element.Row ++ (element_text element.Cell (unwrap_or (object_type_name (type_number object.value)) (codes "object"))
    ++ (number_cell object.instance ++ (element_text element.Cell object.name
    ++ (element_text element.Cell object.description ++ close_text element.Row))))

unfoldable pub objects_head : List ℕ
objects_head =
    open_text element.Row ++ (element_text element.Head (codes "type") ++ (element_text element.Head (codes "instance")
    ++ (element_text element.Head (codes "name") ++ (element_text element.Head (codes "description") ++ close_text element.Row))))

unfoldable pub objects_table : List Object → List ℕ
objects_table objects =
    element_text element.Heading (codes "Objects of the device") ++ (open_text element.Table
    ++ (objects_head ++ (flat_map object_row objects ++ close_text element.Table)))

abbrev pub objects_text : List Object → List ℕ
objects_text objects = if length objects == 0 then [] else objects_table objects

-- ---- the whole

unfoldable pub first_text : Configuration → (picture access lines : List ℕ) → List ℕ
first_text c picture access lines = head_text c ++ (picture ++ (access ++ lines))

unfoldable pub last_text : Configuration → (lines : List ℕ) → (shows : Bool) → (times : List ℕ) → List Judged → (plots : List ℕ) → List ℕ
last_text c lines shows times judged plots =
    rules_text c lines shows times ++ (assertions_text c judged ++ (objects_text c.objects ++ (plots ++ mark_text mark.End)))

-- The page is about this configuration, of whose text the tables of the rules begin on these lines: it has its title and description,
-- who may do what under it, its rules, its assertions with what is found of each, and its objects.
-- The picture of the site, the lines of `explain`, and what a log denied are pages, of which no more is said; nor is it of how
-- often each rule denied.
pub record IsReport (c : Configuration) (tables : List ℕ) (shows : Bool) (times octets : List ℕ) : Type 0 where
  pub picture : List ℕ
  pub is_picture : IsPage picture
  pub access : List ℕ
  pub is_access : IsAccess c access
  pub lines : List ℕ
  pub are_lines : IsPage lines
  pub plots : List ℕ
  pub are_plots : IsPage plots
  pub judged : List Judged
  pub are_judged : AreJudged c 4096 judged
  pub whole : octets ≡ first_text c picture access lines ++ last_text c tables shows times judged plots
