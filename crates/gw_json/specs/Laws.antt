-- What a reader of JSON (RFC 8259) finds in the lines.
use Rattle.std.specs.Prelude.{◌≡◌, ℕ, ◌≤◌, ◌<◌, ◌^◌, Bool, true, false, IfSome, List, [], ◌∷◌, ◌++◌, length, take, All, Option, None, Some}
use Rattle.std.specs.Prelude.{codes}
use Rattle.std.specs.List.{AllByRecursion, flat_map}
use Rattle.json.specs.Json.{Json, document}
use Rattle.gw_audit.specs.Entry.{IsLineOf, IsShowable, ask_shown}
use Rattle.gw_audit.specs.declared.denial.Denial.{Denial}
use Rattle.gw_audit.specs.declared.entry.ShownAsk.{ShownAsk}
use Rattle.gw_configuration.specs.Configuration.{Configuration}
use Rattle.gw_configuration.specs.declared.fault.ConfigFault.{ConfigFault}
use Rattle.gw_json.specs.Check.{checked_value, fault_value}
use Rattle.gw_json.specs.Comparison.{differences_value, found_value, lines_value, summary_value}
use Rattle.gw_json.specs.Document.{line_of, object_of}
use Rattle.gw_json.specs.Log.{AreFrontMembers, IsEntryIn, denial_value, front_members, front_octets_members, octets_value, text_value}
use Rattle.gw_json.specs.Results.{given_up_value, pair_value, paired_value, results_lines}
use Rattle.gw_json.specs.Why.{IsAnswerIn, answer_value, place_members, plain_value}
use Rattle.gw_ask_sets.specs.declared.regions.comparison.Found.{Found}
use Rattle.gw_ask_sets.specs.declared.regions.pairs.ShownPair.{ShownPair}
use Rattle.gw_rules.specs.Ask.{Ask}
use Rattle.gw_rules.specs.RuleList.{first, is_quiet_by}
use Rattle.gw_rules.specs.declared.rule.Rule.{Rule}

-- a line that is read as this value: it has no control octet, so no line feed, but the one at its end
pub record ReadsAs (line : List ℕ) (value : Json) : Type 0 where
  pub text : List ℕ
  pub ends : line ≡ text ++ 10 ∷ []
  pub plain : All (λ octet. 32 ≤ octet) text
  pub reads : document text ≡ Some value

-- the line of each value is read as that value
abbrev pub IsRead : Json → Type 0
IsRead value = ReadsAs (line_of value) value

-- each denial's line is read as the object of that denial, also with what is in front of it, and if the ask was allowed
pub record DenialReads (d : Denial) : Type 0 where
  pub alone : IsRead (denial_value false [] d)
  pub fronted : (is_allowed : Bool) (front : List ℕ) → IsRead (denial_value is_allowed (front_members front) d)
  pub by_octets : (is_allowed : Bool) (front : List ℕ) → IsRead (denial_value is_allowed (front_octets_members front) d)

abbrev pub DenialsRead : Type 0
DenialsRead = (d : Denial) → IsShowable d → DenialReads d

-- the object of a denial's line with nothing in front has what the line shows and that it was denied, and no more
abbrev pub DenialsStay : Type 0
DenialsStay = (d : Denial) (line text : List ℕ) → IsShowable d → IsLineOf line d → IsEntryIn line text
    → text ≡ line_of (denial_value false [] d)

-- the object of a record of an audit says that the ask was allowed
abbrev pub RecordsAllowed : Type 0
RecordsAllowed = (d : Denial) (line text : List ℕ) → IsShowable d → IsLineOf line d → IsEntryIn (codes "allow " ++ line) text
    → (front : List (List ℕ × Json)) × AreFrontMembers (codes "allow ") front × (text ≡ line_of (denial_value true front d))

-- and so is every other line, whatever its octets are
abbrev pub OthersRead : Type 0
OthersRead = (line : List ℕ) → IsRead (text_value line) × IsRead (octets_value line)

-- the answer to an ask is read as the object of that answer, if the positions of the tables and their lines fit 63 and 64 bits
abbrev pub AnswersRead : Type 0
AnswersRead =
    (rules : List Rule) (notes : List (List ℕ)) (tables lines : List ℕ) → length rules < 2 ^ 64
    → AllByRecursion (λ table. table < 2 ^ 63) tables → AllByRecursion (λ line. line < 2 ^ 64) lines
    → (line text : List ℕ) (answer : IsAnswerIn rules notes (place_members tables lines) line text)
    → ReadsAs text (answer_value rules notes (place_members tables lines) answer.ask)

-- a rule that isn't quiet and has no place to be named has the answer that it had before there were quiet rules and rules of both
-- ways
abbrev pub AnswersStay : Type 0
AnswersStay = (rules : List Rule) (notes : List (List ℕ)) (place : Option ℕ → List (List ℕ × Json)) (ask : ShownAsk)
    → is_quiet_by rules (first rules (ask_shown ask)) ≡ false → place (first rules (ask_shown ask)) ≡ []
    → answer_value rules notes place ask ≡ plain_value rules notes ask

-- and the lines of a comparison, with numbers that fit 64 bits
abbrev pub ComparisonsRead : Type 0
ComparisonsRead = (old new : List Rule) (f : Found) → IsRead (found_value old new f)

-- of its first line, whatever the texts of the parts that differ are
abbrev pub DifferencesRead : Type 0
DifferencesRead = (names details asserts : Option (List ℕ)) → IsRead (differences_value names details asserts)

-- where nothing is said of assertions, that line is the one that it was before there were any
abbrev pub DifferencesStay : Type 0
DifferencesStay =
    (names details : Option (List ℕ)) → differences_value names details (Some [])
    ≡ object_of ((codes "differ", lines_value names) ∷ (codes "details", lines_value details) ∷ [])

abbrev pub SummariesRead : Type 0
SummariesRead =
    (kinds steps : ℕ) (finished : Bool) → kinds < 2 ^ 64 → steps < 2 ^ 64
    → IsRead (summary_value kinds finished steps)

-- the numbers of an ask fit 64 bits, as those of each value of the type do
abbrev pub Fits : Option ℕ → Type 0
Fits value = IfSome value (λ n. n < 2 ^ 64)

pub record AskFits (ask : Ask) : Type 0 where
  pub operation : Fits ask.operation
  pub port : Fits ask.port
  pub source_network : Fits ask.source_network
  pub destination_network : Fits ask.destination_network
  pub service : Fits ask.service
  pub object_type : Fits ask.object_type
  pub instance : Fits ask.instance
  pub property : Fits ask.property
  pub priority : Fits ask.priority

-- a pair of rules with such an ask
abbrev pub PairsRead : Type 0
PairsRead = (old new : List Rule) (shown : ShownPair) → AskFits shown.ask → IsRead (pair_value old new shown)

-- the last lines of pairs
abbrev pub PairedRead : Type 0
PairedRead = (pairs steps : ℕ) → pairs < 2 ^ 64 → steps < 2 ^ 64 → IsRead (paired_value pairs steps)

abbrev pub GivenUpRead : Type 0
GivenUpRead =
    (kinds steps pairs given_up : ℕ) → kinds < 2 ^ 64 → steps < 2 ^ 64 → pairs < 2 ^ 64 → given_up < 2 ^ 64
    → IsRead (given_up_value kinds steps pairs given_up)

-- where no pairs are looked for, the lines are those that there were before there were any: of regions alone
abbrev pub RegionsStay : Type 0
RegionsStay = (old new : List Rule) (most steps : ℕ) (found : List Found) → results_lines old new most steps found None
    ≡ flat_map (λ f. line_of (found_value old new f)) (take most found) ++ line_of (summary_value (length found) true steps)

-- the numbers of a configuration fit 64 bits, as those of each value of the type do
pub record NumbersFit (c : Configuration) : Type 0 where
  pub network : c.device.network < 2 ^ 64
  pub instance : c.device.instance < 2 ^ 64
  pub networks : AllByRecursion (λ port. port.network < 2 ^ 64) c.ports
  pub ports : length c.ports < 2 ^ 64
  pub objects : length c.objects < 2 ^ 64
  pub rules : c.written < 2 ^ 64
  pub routes : length c.routes < 2 ^ 64
  pub assertions : length c.assertions < 2 ^ 64

-- and the lines of a check
abbrev pub ChecksRead : Type 0
ChecksRead = (c : Configuration) → NumbersFit c → IsRead (checked_value c)

abbrev pub FaultsRead : Type 0
FaultsRead =
    (fault : ConfigFault) (explanation : Option (List ℕ)) → IsRead (fault_value fault explanation)
