-- What each rule that allows lets whom ask for: a line for each rule that decides an ask of the gateway.
use Rattle.std.specs.Prelude.{◌≡◌, ℕ, ◌-◌, ◌==◌, Bool, false, not, ◌&&◌, if◌then◌else◌, List, [], ◌∷◌, ◌++◌, length, take, codes}
use Rattle.std.specs.List.{flat_map}
use Rattle.gw_ask_sets.specs.regions.Tidying.{tidy}
use Rattle.gw_ask_sets.specs.shapes.Shapes.{shapes}
use Rattle.gw_configuration.specs.Configuration.{Configuration}
use Rattle.gw_rules.specs.Rule.{each_field, ranges_of}
use Rattle.gw_rules.specs.declared.field.FieldName.{FieldName}
use Rattle.gw_rules.specs.declared.field.FieldName.TheVariants.{DestinationNetwork, Instance, ObjectType, Port, Priority, Property}
use Rattle.gw_rules.specs.declared.field.FieldName.TheVariants.{Sender, Service, SourceKey, SourceNetwork, Station}
use Rattle.gw_rules.specs.declared.range.Range.{Range}
use Rattle.gw_rules.specs.declared.rule.Rule.{Rule}
use Rattle.gw_script.specs.Order.{in_order}
use Rattle.gw_policy_review.specs.comparison.Words.{any_of, operations_text, range_text, word_of}
use Rattle.gw_policy_review.specs.lint.Finding.{AreTrue}
use Rattle.gw_policy_review.specs.permissions.Passing.{finding_at, lets}
use Rattle.gw_policy_review.specs.permissions.Words.{rule_words}
use Rattle.gw_policy_review.specs.warnings.Oversights.{share}
use Rattle.gw_policy_review.specs.declared.lint.finding.Finding.{Finding}
use Rattle.gw_policy_review.specs.declared.lint.finding.Finding.TheVariants as finding

-- ---- whom, and what

-- the fields that say who asks, beside the network; and those that say what for, beside the operation
abbrev pub who : List FieldName
who = SourceKey ∷ Sender ∷ Port ∷ []

abbrev pub what : List FieldName
what = ObjectType ∷ Instance ∷ Property ∷ Priority ∷ Service ∷ Station ∷ DestinationNetwork ∷ []

abbrev pub ranges_words : FieldName → List Range → List ℕ
ranges_words field ranges = word_of field ++ any_of (range_text field) ranges

abbrev pub network_words : List Range → List ℕ
network_words ranges = if length ranges == 0 then codes "from any network" else ranges_words SourceNetwork ranges

abbrev pub operation_words : List Range → List ℕ
operation_words ranges =
    if length ranges == 0 then codes "any operation"
    else operations_text (record { absent = false; ranges = tidy ranges })

-- a field that the rule names
abbrev pub field_words : Rule → FieldName → List ℕ
field_words rule field =
    if length (ranges_of field rule) == 0 then [] else codes ", " ++ ranges_words field (ranges_of field rule)

-- whether the rule decides such an ask isn't known
abbrev pub doubt_words : Finding → List ℕ
doubt_words finding.Unknown = codes ": may "
doubt_words _ = codes ": "

abbrev pub who_words : Rule → List ℕ
who_words rule = network_words rule.ranges.source_network ++ flat_map (field_words rule) who

abbrev pub what_words : Rule → List ℕ
what_words rule = operation_words rule.ranges.operation ++ flat_map (field_words rule) what

-- `from network 1, sender 10.1.0.10:47808: write, type 5 binary-value, to network 2`
abbrev pub asks_words : Rule → Finding → List ℕ
asks_words rule found = who_words rule ++ (doubt_words found ++ what_words rule)

-- ---- which rules deny some of it

-- a rule denies, and decides an ask, or that isn't known
abbrev pub stops : Rule → Finding → Bool
stops rule (finding.Decides ask) = not rule.allow
stops rule finding.Unknown = not rule.allow
stops rule _ = false

-- an ask may match both rules
abbrev pub meet : Rule → Rule → Bool
meet rule other = each_field (λ field. share (ranges_of field rule) (ranges_of field other))

-- a rule of a lower number that may deny asks that this rule matches
abbrev pub is_exception : Rule → Rule → Finding → Bool
is_exception rule other found = stops other found && meet rule other

abbrev pub exception_words : Configuration → (lines : List ℕ) → ℕ → Rule → List ℕ
exception_words c lines number other = codes ", unless " ++ (rule_words c lines number other.name ++ codes " denies it")

abbrev pub exception_text : Configuration → (lines : List ℕ) → List Finding → Rule → ℕ → Rule → List ℕ
exception_text c lines findings rule number other =
    if is_exception rule other (finding_at findings number) then exception_words c lines number other else []

abbrev pub exceptions_text : Configuration → (lines : List ℕ) → List Finding → ℕ → Rule → List ℕ
exceptions_text c lines findings number rule =
    in_order (exception_text c lines findings rule) 1 (take (number - 1) c.rules)

-- ---- the lines

abbrev pub by_words : Configuration → (lines : List ℕ) → List Finding → ℕ → Rule → List ℕ
by_words c lines findings number rule =
    codes ", by " ++ (rule_words c lines number rule.name ++ (exceptions_text c lines findings number rule ++ 10 ∷ []))

-- the line of the rule of this number, if it lets somebody ask for something
abbrev pub allowance_line : Configuration → (lines : List ℕ) → List Finding → ℕ → Rule → List ℕ
allowance_line c lines findings number rule =
    if lets rule (finding_at findings number)
    then asks_words rule (finding_at findings number) ++ by_words c lines findings number rule else []

abbrev pub allowances_text : Configuration → (lines : List ℕ) → List Finding → List ℕ
allowances_text c lines findings = in_order (allowance_line c lines findings) 1 c.rules

-- A text has a line for each rule that lets somebody ask for something, by what is found of the rules over all asks of the gateway; so many
-- steps are left before, and after.
pub record AreAllowances (c : Configuration) (lines : List ℕ) (left rest : ℕ) (text : List ℕ) : Type 0 where
  pub findings : List Finding
  pub are_true : AreTrue (shapes c) c.rules left rest findings
  pub shown : text ≡ allowances_text c lines findings

-- such lines follow what a buffer held
abbrev pub AppendsAllowances : Configuration → (lines : List ℕ) → (left rest : ℕ) → List ℕ → List ℕ → Type 0
AppendsAllowances c lines left rest old new = (text : List ℕ) × AreAllowances c lines left rest text × (new ≡ old ++ text)
