-- What `suggest` leaves written, at each outcome: over the definitions of `gw_policy_drafts::suggestion`.
use Rattle.std.specs.Prelude.{◌≡◌, ◌⊎◌, ℕ, Bool, true, false, List, ◌++◌, Result, Ok, Err}
use Rattle.gw_policy_drafts.specs.suggestion.Suggestion.{IsSuggested}
use Rattle.gw_policy_drafts.specs.declared.suggestion.fault.SuggestFault.{SuggestFault}
use Rattle.gw_policy_drafts.specs.declared.suggestion.suggestion.Manner.{Manner}
use Rattle.gw_policy_drafts.specs.declared.suggestion.fault.SuggestFault.TheVariants as suggest
use Rattle.gw_ending.specs.Ending.{fault_of_configuration}
use Rattle.gw_ending.specs.declared.fault.Fault.{Fault}
use Rattle.gw_ending.specs.declared.fault.Fault.TheVariants as fault

-- a text of rules that are suggested for a log was made, and a front of it was written
pub record WritesFront (text : List ℕ) (manner : Manner) (log before after : List ℕ) : Type 0 where
  pub made : List ℕ
  pub suggested : IsSuggested text manner log made
  pub front : List ℕ
  pub rest : List ℕ
  pub parts : made ≡ front ++ rest
  pub written : after ≡ before ++ front

-- `before` was written before rules were suggested for a log under the configuration of this text with this outcome,
-- and `after` when that ended: rules that are suggested for it, or nothing; after a failed write a front of them
abbrev pub Suggests : List ℕ → Manner → List ℕ → List ℕ → Result (Unit {0}) Fault → List ℕ → Type 0
Suggests text manner log before (Ok done) after =
    (made : List ℕ) × IsSuggested text manner log made × (after ≡ before ++ made)
Suggests text manner log before (Err fault.Write) after = (after ≡ before) ⊎ WritesFront text manner log before after
Suggests text manner log before (Err _) after = after ≡ before

-- why no rules are suggested, as the program reports it
abbrev pub fault_of_suggestion : SuggestFault → Fault
fault_of_suggestion (suggest.Configuration f) = fault_of_configuration f
fault_of_suggestion suggest.Read = fault.Read
fault_of_suggestion (suggest.Line n) = fault.Line n
fault_of_suggestion suggest.TooManyAsks = fault.TooManyAsks
fault_of_suggestion suggest.TooManyRules = fault.TooManyRules
fault_of_suggestion suggest.Unlike = fault.Unwritable
fault_of_suggestion suggest.Write = fault.Write
fault_of_suggestion suggest.Memory = fault.Memory

-- the first fault of the suggestion and of the flush after it
abbrev pub first_suggestion_fault : Result (Unit {0}) SuggestFault → Bool → Result (Unit {0}) Fault
first_suggestion_fault (Ok done) true = Ok done
first_suggestion_fault (Ok done) false = Err fault.Write
first_suggestion_fault (Err f) flushed = Err (fault_of_suggestion f)
