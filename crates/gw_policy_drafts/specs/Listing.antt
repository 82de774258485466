-- The rules of a configuration, as tables of format 3: one for each, in order.
use Rattle.std.specs.Prelude.{◌≡◌, ℕ, ◌+◌, ◌-◌, ◌==◌, Bool, false, if◌then◌else◌, List, [], ◌++◌, length, slice_get, codes, decimal, Option}
use Rattle.std.specs.Prelude.{Some, None, Ok}
use Rattle.std.specs.List.{flat_map}
use Rattle.std.specs.Option.{option_map_or}
use Rattle.gw_configuration.specs.Configuration.{Configuration}
use Rattle.gw_policy_text.specs.Document.{configuration}
use Rattle.gw_rules.specs.Rule.{ranges_of}
use Rattle.gw_rules.specs.declared.field.FieldName.{FieldName}
use Rattle.gw_rules.specs.declared.field.TheConstants.FieldName.{ALL}
use Rattle.gw_rules.specs.declared.rule.Rule.{Rule}
use Rattle.gw_script.specs.Order.{in_order}
use Rattle.gw_policy_drafts.specs.migration.Items.{field_line, quoted}

-- ---- a table

-- the rule's number in the list, and that of the table of the text from which it comes, each from 1, and the line on which this
-- begins, if that is known: a comment
unfoldable pub line_end : Option ℕ → List ℕ
line_end None = codes "\n"
line_end (Some line) = codes ", line " ++ (decimal line ++ codes "\n")

unfoldable pub number_line : (number table : ℕ) → (line : Option ℕ) → List ℕ
number_line number table line =
    codes "# rule " ++ (decimal number ++ (codes ", from table " ++ (decimal table ++ line_end line)))

-- its name, and what it says of the asks that it matches
unfoldable pub allow_line : Bool → List ℕ
allow_line allow = if allow then codes "\nallow = true\n" else codes "\nallow = false\n"

unfoldable pub head_text : Rule → List ℕ
head_text rule = codes "[[rule]]\nname = " ++ (quoted rule.name ++ allow_line rule.allow)

unfoldable pub quiet_line : Bool → List ℕ
quiet_line quiet = if quiet then codes "quiet = true\n" else []

-- what it says of a field
abbrev pub field_of : Rule → FieldName → List ℕ
field_of rule field = field_line field (ranges_of field rule)

-- its note and its audit, and an empty line
unfoldable pub noted_line : List ℕ → List ℕ
noted_line note = codes "note = " ++ (quoted note ++ codes "\n")

abbrev pub note_line : List ℕ → List ℕ
note_line note = if length note == 0 then [] else noted_line note

unfoldable pub audit_line : Bool → List ℕ
audit_line audit = if audit then codes "audit = true\n" else []

unfoldable pub last_text : List ℕ → Bool → List ℕ
last_text note audit = note_line note ++ (audit_line audit ++ codes "\n")

unfoldable pub said_text : Rule → (note : List ℕ) → (audit : Bool) → List ℕ
said_text rule note audit = head_text rule ++ (quiet_line rule.quiet ++ (flat_map (field_of rule) ALL ++ last_text note audit))

-- ---- the tables

-- the place of the table of the rule at a place, each from 0; the rule's note, or nothing, and whether it is audited
abbrev pub table_at : List ℕ → ℕ → ℕ
table_at tables place = option_map_or (λ table. table) (slice_get tables place) 0

abbrev pub note_at : List (List ℕ) → ℕ → List ℕ
note_at notes place = option_map_or (λ note. note) (slice_get notes place) []

abbrev pub audit_at : List Bool → ℕ → Bool
audit_at audits place = option_map_or (λ audit. audit) (slice_get audits place) false

-- the table of the rule of this number, from 1
abbrev pub rule_table : (tables lines : List ℕ) → (notes : List (List ℕ)) → (audits : List Bool) → ℕ → Rule → List ℕ
rule_table tables lines notes audits number rule =
    number_line number (table_at tables (number - 1) + 1) (slice_get lines (table_at tables (number - 1)))
    ++ said_text rule (note_at notes (number - 1)) (audit_at audits (number - 1))

-- those of all rules, of which the tables begin on these lines of the text
abbrev pub listing_text : Configuration → (lines : List ℕ) → List ℕ
listing_text c lines = in_order (rule_table c.tables lines c.notes c.audits) 1 c.rules

-- Behind a text without rules the tables are read as the rules of the configuration, with their notes and audits; no rule has
-- a set, and there are as many tables as rules.
pub record IsReadAgain (c : Configuration) (text : List ℕ) : Type 0 where
  pub front : List ℕ
  pub bare : Configuration
  pub reads_bare : configuration front ≡ Ok bare
  pub none : bare.rules ≡ []
  pub back : Configuration
  pub reads_back : configuration (front ++ text) ≡ Ok back
  pub rules : back.rules ≡ c.rules
  pub notes : back.notes ≡ c.notes
  pub audits : back.audits ≡ c.audits
  pub sets : back.sets ≡ []
  pub written : back.written ≡ length c.rules
