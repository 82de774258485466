-- What is reported of a configuration that is read again, how often one was, and which text the one in force has.
use Rattle.std.specs.Prelude.{◌≡◌, ℕ, ◌⊎◌, List, [], ◌++◌, ◌∷◌, length, Option, Some, Result, Ok, codes, decimal}
use Rattle.std.specs.List.{flat_map}
use Rattle.gw_policy_text.specs.faults.Explanation.{ExplainsText}
use Rattle.gw_configuration.specs.Configuration.{Configuration}
use Rattle.gw_configuration.specs.declared.fault.ConfigFault.{ConfigFault}
use Rattle.gw_configuration.specs.declared.fault.ConfigFault.TheVariants as config
use Rattle.gw_notices.specs.rule_changes.Changes.{changes_of, changes_text}
use Rattle.gw_rules.specs.declared.rule.Rule.{Rule}
use Rattle.gw_state.specs.Saved.{Saved}
use Rattle.gw_state_words.specs.Words.{take_over_words}
use Rattle.gw_system.specs.Obstacle.{obstacle_words}
use Rattle.gw_system.specs.declared.reading.ReadFailure.{ReadFailure}
use Rattle.gw_system.specs.declared.reading.ReadFailure.TheVariants as reading
use Rattle.gw_state_words.specs.takeover.Findings.{take_over}
use Rattle.gw_decisions.specs.tally.Tally.{one_more}
use Rattle.gw_notices.specs.Parts.{part_words}
use Rattle.gw_notices.specs.declared.checksum.Checksum.{Checksum}
use Rattle.gw_notices.specs.declared.parts.ConfigurationPart.{ConfigurationPart}
use Rattle.gw_notices.specs.declared.reload.ReloadCounts.{ReloadCounts}
use Rattle.gw_notices.specs.declared.reload.ReloadFault.{ReloadFault}
use Rattle.gw_notices.specs.declared.reload.ReloadFault.TheVariants as fault

-- ---- why it isn't taken over

-- the name of a fault of a configuration
abbrev pub name_of : ConfigFault → List ℕ
name_of config.NotToml = codes "NotToml"
name_of config.UnknownKey = codes "UnknownKey"
name_of config.Missing = codes "Missing"
name_of config.Kind = codes "Kind"
name_of config.Range = codes "Range"
name_of config.Duplicate = codes "Duplicate"
name_of config.TooMany = codes "TooMany"
name_of config.Memory = codes "Memory"

abbrev pub refusal_words : ReloadFault → List ℕ
refusal_words (fault.Unreadable why) = codes "cannot read configuration: " ++ obstacle_words why
refusal_words (fault.Configuration f) = codes "configuration: " ++ name_of f
refusal_words fault.Ports = codes "the ports differ: restart for them"
refusal_words fault.Memory = codes "out of memory"

abbrev pub fault_of_configuration : ConfigFault → ReloadFault
fault_of_configuration config.Memory = fault.Memory
fault_of_configuration f = fault.Configuration f

abbrev pub fault_of_reading : ReadFailure → ReloadFault
fault_of_reading (reading.Unreadable why) = fault.Unreadable why
fault_of_reading reading.Memory = fault.Memory

-- ---- what is reported

-- the line of a configuration that isn't taken over
abbrev pub refusal_line : ReloadFault → List ℕ
refusal_line f = codes "reload refused: " ++ refusal_words f ++ 10 ∷ []

-- the line of a text's fault whose place is known
abbrev pub located_line : ConfigFault → (place : List ℕ) → List ℕ
located_line f place = codes "reload refused: configuration: " ++ name_of f ++ codes ": " ++ place ++ 10 ∷ []

-- The line of what was read and isn't taken over: of a fault of the text with its place, as `bacgwctl explain` says it, unless
-- memory runs out for that.
abbrev pub IsRefusalLine : Result (Option (List ℕ)) ReadFailure → ReloadFault → List ℕ → Type 0
IsRefusalLine (Ok (Some text)) (fault.Configuration f) line =
    ((place : List ℕ) × ExplainsText text f (Some place) × (line ≡ located_line f place))
    ⊎ (line ≡ refusal_line (fault.Configuration f))
IsRefusalLine read f line = line ≡ refusal_line f

-- how many rules a configuration has and how they differ from these
abbrev pub policy_words : List Rule → Configuration → List ℕ
policy_words rules c =
    decimal (length c.rules) ++ codes " rules (" ++ changes_text (changes_of rules c.rules) ++ codes "), "

-- how many objects it has
abbrev pub objects_words : Configuration → List ℕ
objects_words c = decimal (length c.objects) ++ codes " objects; "

-- the line of a configuration that is taken over by a gateway with these rules, of which this is saved: that, what goes on, and
-- which of these parts differ
abbrev pub reload_line : List Rule → Configuration → Saved → List ConfigurationPart → List ℕ
reload_line rules c s differ =
    codes "reload: " ++ policy_words rules c ++ objects_words c ++ take_over_words (take_over c s) ++ flat_map part_words differ ++ 10 ∷ []

-- ---- how often, and which text is in force

-- no configuration was read again since the one in force, of whose text this is the checksum, began at this tick
abbrev pub counts_since : ℕ → Checksum → ReloadCounts
counts_since tick checksum = record { taken_over = 0; refused = 0; since = tick; checksum = checksum }

-- one more was taken over, at this tick, of whose text this is the checksum
abbrev pub with_taken_over : ReloadCounts → (tick : ℕ) → Checksum → ReloadCounts
with_taken_over counts tick checksum =
    record { taken_over = one_more counts.taken_over; refused = counts.refused; since = tick; checksum = checksum }

-- one more was refused
abbrev pub with_refused : ReloadCounts → ReloadCounts
with_refused counts = record {
  taken_over = counts.taken_over;
  refused = one_more counts.refused;
  since = counts.since;
  checksum = counts.checksum;
}
