-- What rules that are suggested let through: exactly what the own rules of the asks do from which they are made.
use Rattle.std.specs.Prelude.{◌≡◌, ◌⊎◌, ℕ, zero, suc, ◌+◌, ◌-◌, ◌<◌, Bool, true, false, ◌&&◌, nat_le, is_some, if◌then◌else◌, List, [], ◌∷◌}
use Rattle.std.specs.Prelude.{◌++◌, length, slice_get, Option, Some, None, Result, Ok, Err}
use Rattle.std.specs.List.{AllByRecursion, list_all, list_any}
use Rattle.std.specs.Option.{option_and_then}
use Rattle.gw_ask_sets.specs.assertions.Judging.{AreJudged, IsBroken}
use Rattle.gw_ask_sets.specs.declared.assertions.judging.Judged.{Judged}
use Rattle.gw_ask_sets.specs.declared.assertions.judging.Judged.TheVariants.{Broken}
use Rattle.gw_configuration.specs.Configuration.{Configuration}
use Rattle.gw_configuration.specs.declared.assertion.Assertion.{Assertion}
use Rattle.gw_policy_text.specs.Document.{configuration}
use Rattle.gw_rules.specs.Ask.{Ask}
use Rattle.gw_rules.specs.Rule.{matches}
use Rattle.gw_rules.specs.declared.rule.Rule.{Rule}
use Rattle.gw_script.specs.Script.{lines_of}
use Rattle.gw_policy_drafts.specs.suggestion.Given.{filled, taken}
use Rattle.gw_policy_drafts.specs.suggestion.Lines.{AreSeen}
use Rattle.gw_policy_drafts.specs.suggestion.Own.{own_rule}
use Rattle.gw_policy_drafts.specs.suggestion.Text.{IsTextOf, place_of, rules_of}
use Rattle.gw_policy_drafts.specs.declared.suggestion.leaving.Breaking.{Breaking}
use Rattle.gw_policy_drafts.specs.declared.suggestion.leaving.LeftOut.{LeftOut}
use Rattle.gw_policy_drafts.specs.declared.suggestion.fault.SuggestFault.{SuggestFault}
use Rattle.gw_policy_drafts.specs.declared.suggestion.fault.SuggestFault.TheVariants.{Write}
use Rattle.gw_policy_drafts.specs.declared.suggestion.suggestion.Manner.{Manner}

-- a rule of these matches the ask
abbrev pub matched : List Rule → Ask → Bool
matched rules ask = list_any (λ rule. matches rule ask) rules

-- the own rule of one of these asks does
abbrev pub matched_own : Bool → List Ask → Ask → Bool
matched_own keeps asks ask = list_any (λ given. matches (own_rule keeps given) ask) asks

-- An ask matches one of the rules exactly if it matches the own rule of an ask, and each rule allows.
pub record IsSuggestion (keeps : Bool) (asks : List Ask) (rules : List Rule) : Type 0 where
  pub exact : (ask : Ask) → matched rules ask ≡ matched_own keeps asks ask
  pub allow : list_all (λ rule. rule.allow) rules ≡ true

-- the asks from which rules are made; if they are to be filled, each object that a station asked for with each property
-- and priority that it asked for; but none that is open
abbrev pub wanted : Manner → List Ask → List Ask
wanted manner asks = taken (if manner.fills then filled asks else asks)

-- ---- the text

-- so many, each of them this
abbrev pub each : {A : Type 0} → ℕ → A → List A
each zero one = []
each (suc count) one = one ∷ each count one

-- a configuration is another one with these rules in front of its own: they have no notes, and aren't audited
pub record HasInFront (old : Configuration) (suggested : List Rule) (c : Configuration) : Type 0 where
  pub all_rules : c.rules ≡ suggested ++ old.rules
  pub notes : c.notes ≡ each (length suggested) [] ++ old.notes
  pub audits : c.audits ≡ each (length suggested) false ++ old.audits
  pub format : c.format ≡ old.format
  pub announce : c.announce ≡ old.announce
  pub device : c.device ≡ old.device
  pub ports : c.ports ≡ old.ports
  pub routes : c.routes ≡ old.routes
  pub objects : c.objects ≡ old.objects
  pub assertions : c.assertions ≡ old.assertions

-- The text, put into a configuration's text, is read as the same with these rules in front.
pub record IsInFront (old : Configuration) (text : List ℕ) (suggested : List Rule) (added : List ℕ)
    (configured : Configuration) : Type 0 where
  pub front : List ℕ
  pub rest : List ℕ
  pub parts : text ≡ front ++ rest
  pub reads : configuration (front ++ added ++ rest) ≡ Ok configured
  pub all : HasInFront old suggested configured

-- ---- assertions

-- the place of the rule that breaks an assertion, if it is one of the first so many
abbrev pub place_in : ℕ → ℕ → Option ℕ
place_in count number = if nat_le 1 number && nat_le number count then Some (number - 1) else None

abbrev pub broken_by : ℕ → Judged → Option ℕ
broken_by count (Broken ask by is_allowed) = option_and_then (place_in count) by
broken_by count judged = None

-- no assertion of a configuration is found to be broken by one of its first rules
pub record BreaksNone (c : Configuration) (count : ℕ) : Type 0 where
  pub judged : List Judged
  pub are_judged : AreJudged c 4096 judged
  pub none : list_any (λ one. is_some (broken_by count one)) judged ≡ false

-- the rule at a place of a configuration breaks the assertion at a place: it decides an ask that is meant, and otherwise
pub record IsBreaking (c : Configuration) (count : ℕ) (found : Breaking) : Type 0 where
  pub within : found.rule < count
  pub assertion : Assertion
  pub named : slice_get c.assertions found.assertion ≡ Some assertion
  pub ask : Ask
  pub is_allowed : Bool
  pub broken : IsBroken c assertion ask (Some (found.rule + 1)) is_allowed

-- what is found of the first rules of a configuration
abbrev pub IsOutcome : Configuration → ℕ → Option Breaking → Type 0
IsOutcome c count None = BreaksNone c count
IsOutcome c count (Some found) = IsBreaking c count found

-- by what is judged, the rule at a place breaks the assertion at a place
pub record IsFound (judged : List Judged) (count : ℕ) (found : Breaking) : Type 0 where
  pub one : Judged
  pub is : slice_get judged found.assertion ≡ Some one
  pub by : broken_by count one ≡ Some found.rule

-- a rule that is left out for the assertion that it was found to break
abbrev pub left_of : Rule → Breaking → LeftOut
left_of rule found = record { rule = rule; assertion = found.assertion }

-- the rule that was found is left out after others
pub record IsLeftOut (kept : List Rule) (before : List LeftOut) (found : Breaking) (after : List LeftOut) : Type 0 where
  pub rule : Rule
  pub is : slice_get kept found.rule ≡ Some rule
  pub grown : after ≡ before ++ left_of rule found ∷ []

-- what is suggested stays so, those that are left out with the others
abbrev pub StaysSuggested : (kept : List Rule) → (left : List LeftOut) → (kept_then : List Rule) → (left_then : List LeftOut) → Type 0
StaysSuggested kept left kept_then left_then =
    (keeps : Bool) (asks : List Ask) → IsSuggestion keeps asks (kept ++ rules_of left)
    → IsSuggestion keeps asks (kept_then ++ rules_of left_then)

-- where a rule stands, and the assertion for which it is left out
abbrev pub found_at : ℕ → LeftOut → Breaking
found_at place left = record { rule = place; assertion = left.assertion }

-- a rule that is left out: with some rules in front of the configuration, of which it is one, it breaks the assertion
pub record Breaks (old : Configuration) (left : LeftOut) : Type 0 where
  pub tried : List Rule
  pub configured : Configuration
  pub in_front : HasInFront old tried configured
  pub place : ℕ
  pub rule : slice_get tried place ≡ Some left.rule
  pub breaking : IsBreaking configured (length tried) (found_at place left)

-- The text is of rules that are suggested for these asks, but for some that are left out: each of these would break an
-- assertion, and none of the others does, as far as is judged. Its comments say for how many of the asks each rule is, which
-- fields they lack, and which assertion a rule would break.
pub record IsAdded (old : Configuration) (text : List ℕ) (manner : Manner) (asks : List Ask) (added : List ℕ) : Type 0 where
  pub kept : List Rule
  pub left : List LeftOut
  pub suggestion : IsSuggestion manner.keeps_services (wanted manner asks) (kept ++ rules_of left)
  pub configured : Configuration
  pub in_front : IsInFront old text kept added configured
  pub breaks_none : BreaksNone configured (length kept)
  pub breaking : AllByRecursion (Breaks old) left
  pub comments : IsTextOf (place_of old) old.assertions kept left asks added

-- The text is of rules that are suggested for the asks that the lines of a log show and the configuration denies.
pub record IsSuggested (text : List ℕ) (manner : Manner) (log added : List ℕ) : Type 0 where
  pub old : Configuration
  pub configured : configuration text ≡ Ok old
  pub asks : List Ask
  pub seen : AreSeen old.rules (lines_of log) asks
  pub made : IsAdded old text manner asks added

-- the whole of a text is written, or after a failed write a front of it
abbrev pub LeavesText : List ℕ → Result (Unit {0}) SuggestFault → (before after : List ℕ) → Type 0
LeavesText text (Ok done) before after = after ≡ before ++ text
LeavesText text (Err fault) before after =
    (front : List ℕ) × (rest : List ℕ) × (fault ≡ Write) × (text ≡ front ++ rest) × (after ≡ before ++ front)

-- such a text is written, whole or a front of it
pub record LeavesMade
    (text : List ℕ) (manner : Manner) (result : Result (Unit {0}) SuggestFault) (log before after : List ℕ) : Type 0 where
  pub made : List ℕ
  pub suggested : IsSuggested text manner log made
  pub written : LeavesText made result before after

-- what is written, by the outcome: nothing with a fault, unless a write failed
abbrev pub LeavesSuggestion : List ℕ → Manner → Result (Unit {0}) SuggestFault → (log before after : List ℕ) → Type 0
LeavesSuggestion text manner (Ok done) log before after = LeavesMade text manner (Ok done) log before after
LeavesSuggestion text manner (Err fault) log before after =
    (after ≡ before) ⊎ LeavesMade text manner (Err fault) log before after
