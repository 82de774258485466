-- Which rule would decide the asks that a text says: a JSON object for each line.
use Rattle.std.specs.Prelude.{◌≡◌, ◌-◌, ◌==◌, ℕ, Bool, true, List, [], ◌∷◌, ◌++◌, length, if◌then◌else◌, codes, Option, Some, None, Result}
use Rattle.std.specs.Prelude.{slice_get}
use Rattle.std.specs.Option.{option_and_then, option_map_or}
use Rattle.json.specs.Json.{Json, null, boolean, string}
use Rattle.gw_audit.specs.Entry.{ShowsAsk, ask_shown}
use Rattle.gw_audit.specs.declared.entry.ShownAsk.{ShownAsk}
use Rattle.gw_json.specs.Ask.{ask_members, number_value}
use Rattle.gw_json.specs.Document.{line_of, object_of}
use Rattle.gw_policy_review.specs.Places.{line_of as table_line, table_of}
use Rattle.gw_rules.specs.RuleList.{allows, first, is_quiet_by}
use Rattle.gw_rules.specs.declared.rule.Rule.{Rule}
use Rattle.gw_script.specs.Lines.{LeavesLines}
use Rattle.gw_script.specs.declared.lines.LinesFault.{LinesFault}

-- the name of the rule of a number, which counts from 1, or `default` if no rule matches
abbrev pub name_value : Option Rule → Json
name_value rule = option_map_or (λ r. string r.name) rule (string (codes "default"))

abbrev pub rule_at : List Rule → Option ℕ → Option Rule
rule_at rules by = option_and_then (λ n. slice_get rules (n - 1)) by

-- its note, or null if it has none
abbrev pub noted_value : List ℕ → Json
noted_value note = if length note == 0 then null else string note

abbrev pub note_value : Option (List ℕ) → Json
note_value note = option_map_or noted_value note null

abbrev pub note_at : List (List ℕ) → Option ℕ → Option (List ℕ)
note_at notes by = option_and_then (λ n. slice_get notes (n - 1)) by

-- what the policy says, by the rule of this number or by none
abbrev pub verdict_members : List Rule → List (List ℕ) → Bool → Option ℕ → List (List ℕ × Json)
verdict_members rules notes is_allowed by =
    (codes "allow", boolean is_allowed) ∷ (codes "rule", name_value (rule_at rules by))
    ∷ (codes "rule_number", number_value by) ∷ (codes "note", note_value (note_at notes by)) ∷ []

-- that the rule which denies is quiet, so that the log leaves the denial out
abbrev pub quiet_members : Bool → List (List ℕ × Json)
quiet_members is_quiet = if is_quiet then (codes "quiet", boolean true) ∷ [] else []

-- of a rule whose table in the text has another number: that, and the line on which it begins, or null if that isn't known
abbrev pub beside_members : (lines : List ℕ) → (number : ℕ) → Option ℕ → List (List ℕ × Json)
beside_members lines number None = []
beside_members lines number (Some table) =
    if table == number then [] else (codes "table", number_value (Some table)) ∷ (codes "line", number_value (table_line lines table)) ∷ []

abbrev pub place_members : (tables lines : List ℕ) → Option ℕ → List (List ℕ × Json)
place_members tables lines None = []
place_members tables lines (Some number) = beside_members lines number (table_of tables number)

-- what the policy says of an ask, what `place` says of the rule, and the ask
abbrev pub answer_value : List Rule → List (List ℕ) → (place : Option ℕ → List (List ℕ × Json)) → ShownAsk → Json
answer_value rules notes place ask =
    object_of (verdict_members rules notes (allows rules (ask_shown ask)) (first rules (ask_shown ask))
    ++ place (first rules (ask_shown ask)) ++ quiet_members (is_quiet_by rules (first rules (ask_shown ask))) ++ ask_members ask)

-- the answer of a rule that isn't quiet and whose table has its own number, or of none
abbrev pub plain_value : List Rule → List (List ℕ) → ShownAsk → Json
plain_value rules notes ask =
    object_of (verdict_members rules notes (allows rules (ask_shown ask)) (first rules (ask_shown ask)) ++ ask_members ask)

-- a line that says an ask, and the answer to it
pub record IsAnswerIn (rules : List Rule) (notes : List (List ℕ)) (place : Option ℕ → List (List ℕ × Json)) (line text : List ℕ)
    : Type 0 where
  pub ask : ShownAsk
  pub translates : ShowsAsk line ask
  pub answer : text ≡ line_of (answer_value rules notes place ask)

-- a line that says no ask
abbrev pub SaysNoAsk : List ℕ → Type 0
SaysNoAsk line = (ask : ShownAsk) → ¬ (ShowsAsk line ask)

-- what is left written, by its outcome; a line that says no ask ends it, or one of more than 4096 octets
abbrev pub LeavesVerdicts : List Rule → List (List ℕ) → (place : Option ℕ → List (List ℕ × Json)) → Result (Unit {0}) LinesFault
    → (text before after : List ℕ) → Type 0
LeavesVerdicts rules notes place = LeavesLines (IsAnswerIn rules notes place) SaysNoAsk
