-- On which lines of a text the tables of a list begin.
use Rattle.std.specs.Prelude.{ℕ, ◌+◌, ◌-◌, ◌^◌, ◌==◌, ◌&&◌, ◌||◌, min, Bool, true, false, nat_eq, nat_lt, if◌then◌else◌, List, [], ◌∷◌, ◌++◌, length, codes}
use Rattle.std.specs.Prelude.{Option, Some, None, option_and_then, slice_get, Ok, Err}
use Rattle.std.specs.Option.{option_map_or}
use Rattle.toml.specs.Data.{Data, Members, get_member}
use Rattle.gw_configuration.specs.Located.{Read}
use Rattle.gw_configuration.specs.declared.located.Place.{Place}
use Rattle.gw_configuration.specs.declared.located.Place.TheVariants.{Text, Top, Device, Port, Peer, Route}
use Rattle.gw_configuration.specs.declared.located.Place.TheVariants.{Object, Set, Rule, Assertion}
use Rattle.gw_policy_text.specs.Document.{document}
use Rattle.gw_policy_text.specs.keys.Value.{list_in}

-- ---- a piece of a text

-- it is a document by itself
abbrev pub is_read : {A : Type 0} → Read A → Bool
is_read (Ok value) = true
is_read (Err fault) = false

abbrev pub is_document : List ℕ → Bool
is_document piece = is_read (document piece)

-- a list of one table
abbrev pub is_one : Read (List Data) → Bool
is_one (Ok tables) = length tables == 1
is_one (Err fault) = false

-- the document has one table of the list at this key
abbrev pub has_one : (key : List ℕ) → Members → Bool
has_one key top = option_map_or (λ value. is_one (list_in value)) (get_member key top) false

abbrev pub has_one_in : (key : List ℕ) → Read Members → Bool
has_one_in key (Ok top) = has_one key top
has_one_in key (Err fault) = false

-- the piece begins with a bracket, and is a document by itself that has one such table
abbrev pub begins_with : ℕ → Option ℕ → Bool
begins_with octet first = option_map_or (λ one. nat_eq one octet) first false

abbrev pub is_table : (key piece : List ℕ) → Bool
is_table key piece = begins_with 91 (slice_get piece 0) && has_one_in key (document piece)

-- ---- a text, cut before each table

-- A text that is read octet by octet, for the list at a key: the line that was come to, from 1 (in 32 bits); whether it has only
-- blanks so far; the piece since the last cut, and the line on which that begins; how many octets the pieces had in all of which it
-- was asked whether they are documents; and the lines of the pieces before it that are a table of the list.
pub record Cutting : Type 0 where
  pub key : List ℕ
  pub line : ℕ
  pub is_blank : Bool
  pub piece : List ℕ
  pub began : ℕ
  pub looked_at : ℕ
  pub found : List ℕ

abbrev pub start : (key : List ℕ) → Cutting
start key = record { key = key; line = 1; is_blank = true; piece = []; began = 1; looked_at = 0; found = [] }

abbrev pub found_by : Cutting → List ℕ
found_by cut = if is_table cut.key cut.piece then cut.found ++ cut.began ∷ [] else cut.found

-- A table begins with a bracket, with only blanks before it on its line. What is before it is looked at, if no more than 8 MiB were
-- looked at before.
abbrev pub may_begin : Cutting → ℕ → Bool
may_begin cut octet = cut.is_blank && (nat_eq octet 91 && nat_lt cut.looked_at 8388608)

abbrev pub looked_behind : (looked_at size : ℕ) → ℕ
looked_behind looked_at size = min (looked_at + size) (2 ^ 64 - 1)

abbrev pub looked : Cutting → Cutting
looked cut = record cut { looked_at = looked_behind cut.looked_at (length cut.piece) }

-- a cut
abbrev pub ended : Cutting → Cutting
ended cut = record cut { found = found_by cut }

abbrev pub restarted : Cutting → Cutting
restarted cut = record cut { piece = []; began = cut.line; found = found_by cut }

-- it is one where that is a document: else it is in a value that goes over several lines
abbrev pub cut_there : Cutting → Cutting
cut_there cut = if is_document cut.piece then restarted (looked cut) else looked cut

abbrev pub cut_before : Cutting → ℕ → Cutting
cut_before cut octet = if may_begin cut octet then cut_there cut else cut

abbrev pub line_behind : ℕ → ℕ → ℕ
line_behind line octet = if nat_eq octet 10 then min (line + 1) (2 ^ 32 - 1) else line

abbrev pub is_blank_behind : Bool → ℕ → Bool
is_blank_behind blank octet = nat_eq octet 10 || (blank && (nat_eq octet 32 || nat_eq octet 9))

abbrev pub read_on : Cutting → ℕ → Cutting
read_on cut octet = record cut {
  line = line_behind cut.line octet;
  is_blank = is_blank_behind cut.is_blank octet;
  piece = cut.piece ++ octet ∷ [];
}

unfoldable pub next : Cutting → ℕ → Cutting
next cut octet = read_on (cut_before cut octet) octet

abbrev pub all_read : Cutting → List ℕ → Cutting
all_read cut [] = cut
all_read cut (octet ∷ later) = all_read (next cut octet) later

-- ---- the lines

-- those of all tables of the list that begin so; none where they aren't as many as the text has, since one is written in another way
abbrev pub lines_if : (tables : ℕ) → List ℕ → List ℕ
lines_if tables lines = if length lines == tables then lines else []

abbrev pub lines_at : (key : List ℕ) → (tables : ℕ) → (text : List ℕ) → List ℕ
lines_at key tables text = lines_if tables (found_by (all_read (start key) text))

-- those of the rules
abbrev pub table_lines : (tables : ℕ) → (text : List ℕ) → List ℕ
table_lines tables text = lines_at (codes "rule") tables text

-- ---- the table of a place

-- its list, and where it is there
abbrev pub listed_at : Place → Option (List ℕ × ℕ)
listed_at Text = None
listed_at Top = None
listed_at Device = None
listed_at (Port port) = Some (codes "port", port)
listed_at (Peer port peer) = None
listed_at (Route route) = Some (codes "route", route)
listed_at (Object object) = Some (codes "object", object)
listed_at (Set set) = Some (codes "set", set)
listed_at (Rule rule) = Some (codes "rule", rule)
listed_at (Assertion assertion) = Some (codes "assert", assertion)

-- how many tables the list at a key has
abbrev pub count_in : Read (List Data) → ℕ
count_in (Ok tables) = length tables
count_in (Err fault) = 0

abbrev pub table_count : (key : List ℕ) → Members → ℕ
table_count key top = option_map_or (λ value. count_in (list_in value)) (get_member key top) 0

-- the line on which it begins, if it is one of a list
abbrev pub line_at : Members → (text : List ℕ) → (List ℕ × ℕ) → Option ℕ
line_at top text listed = slice_get (lines_at listed.0 (table_count listed.0 top) text) listed.1

abbrev pub table_line : Place → Members → (text : List ℕ) → Option ℕ
table_line place top text = option_and_then (line_at top text) (listed_at place)
