-- What becomes of a log whose lines are JSON objects.
use Rattle.std.specs.Prelude.{◌≡◌, ◌⊎◌, ℕ, ◌-◌, Bool, List, [], ◌∷◌, ◌++◌, codes, decimal, length, take, Option, Some, None, Result}
use Rattle.std.specs.Str.{IsUtf8}
use Rattle.hex.specs.Hex.{encode_upper}
use Rattle.json.specs.Json.{Json, boolean, number, string}
use Rattle.gw_audit.specs.Entry.{IsLineOf, IsShowable, shown_ask}
use Rattle.gw_log_words.specs.Translation.{RefusesNone}
use Rattle.gw_audit.specs.declared.denial.Denial.{Denial}
use Rattle.gw_audit.specs.declared.entry.ShownAsk.{ShownAsk}
use Rattle.gw_json.specs.Ask.{ask_members}
use Rattle.gw_json.specs.Document.{line_of, object_of}
use Rattle.gw_script.specs.Lines.{LeavesLines}
use Rattle.gw_script.specs.declared.lines.LinesFault.{LinesFault}
use Rattle.gw_log_words.specs.Fields.{fields_of, is_denial, says_allow}

-- `"front":".."`, or `"front_octets":".."` with hexadecimal digits
abbrev pub front_members : List ℕ → List (List ℕ × Json)
front_members front = (codes "front", string front) ∷ []

abbrev pub front_octets_members : List ℕ → List (List ℕ × Json)
front_octets_members front = (codes "front_octets", string (encode_upper front)) ∷ []

-- the member of what is in front of a denial's own fields: none if nothing is, and its octets if it isn't UTF-8
abbrev pub AreFrontMembers : List ℕ → List (List ℕ × Json) → Type 0
AreFrontMembers [] rows = rows ≡ []
AreFrontMembers (c ∷ front) rows =
    (IsUtf8 (c ∷ front) × (rows ≡ front_members (c ∷ front)))
    ⊎ ((¬ (IsUtf8 (c ∷ front))) × (rows ≡ front_octets_members (c ∷ front)))

-- the number of a denial, and its tick
abbrev pub place_members : ℕ → ℕ → List (List ℕ × Json)
place_members n tick = (codes "number", number (decimal n)) ∷ (codes "tick", number (decimal tick)) ∷ []

-- what the rule said, and its name
abbrev pub rule_members : Bool → List ℕ → List (List ℕ × Json)
rule_members is_allowed rule = (codes "allow", boolean is_allowed) ∷ (codes "rule", string rule) ∷ []

-- what a line shows, with the member of what is in front
abbrev pub shown_value : (is_allowed : Bool) → (front : List (List ℕ × Json)) → ℕ → ℕ → ShownAsk → List ℕ → Json
shown_value is_allowed front n tick ask rule =
    object_of (place_members n tick ++ ask_members ask ++ rule_members is_allowed rule ++ front)

abbrev pub denial_value : (is_allowed : Bool) → (front : List (List ℕ × Json)) → Denial → Json
denial_value is_allowed front d = shown_value is_allowed front d.number d.tick (shown_ask d) d.rule

-- another line: `{"line":".."}`, or if it isn't UTF-8 its octets as hexadecimal digits, `{"octets":"FF00"}`
abbrev pub text_value : List ℕ → Json
text_value line = object_of ((codes "line", string line) ∷ [])

abbrev pub octets_value : List ℕ → Json
octets_value line = object_of ((codes "octets", string (encode_upper line)) ∷ [])

-- the object of a line without own fields, by whether it is UTF-8
abbrev pub IsOther : (line text : List ℕ) → Type 0
IsOther line text =
    (IsUtf8 line × (text ≡ line_of (text_value line))) ⊎ ((¬ (IsUtf8 line)) × (text ≡ line_of (octets_value line)))

-- what is in front of own fields that a denial has, which says whether the ask was allowed, and the object of both
pub record IsDenialIn (front fields text : List ℕ) : Type 0 where
  pub denial : Denial
  pub showable : IsShowable denial
  pub spelled : IsLineOf fields denial
  pub before : List (List ℕ × Json)
  pub fronted : AreFrontMembers front before
  pub object : text ≡ line_of (denial_value (says_allow front) before denial)

-- the object of a line, by its own fields if it has such
abbrev pub IsEntryOf : (line : List ℕ) → Option (List ℕ) → (text : List ℕ) → Type 0
IsEntryOf line None text = IsOther line text
IsEntryOf line (Some fields) text = IsDenialIn (take (length line - length fields) line) fields text

-- what becomes of a line
abbrev pub IsEntryIn : List ℕ → List ℕ → Type 0
IsEntryIn line text = IsEntryOf line (fields_of is_denial line) text

-- what is left written, by its outcome; only a line of more than 4096 octets ends it
abbrev pub LeavesEntries : Result (Unit {0}) LinesFault → (log before after : List ℕ) → Type 0
LeavesEntries = LeavesLines IsEntryIn RefusesNone
