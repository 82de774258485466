-- What is written of a text.
use Rattle.std.proofs.Common.{◌≡◌, refl, ℕ, List, ◌++◌, Option, Some, None, Result, Ok, Err, inl, inr}
use Rattle.std.specs.Prelude.{IsSomeAnd}
use Rattle.std.specs.Io.KnownBytes.{Appends}
use Rattle.gw_script.proofs.KnownTexts.{appended, holds_known}
use Rattle.gw_policy_drafts.specs.suggestion.Suggestion.{IsSuggested, LeavesSuggestion, LeavesText}
use Rattle.gw_policy_drafts.specs.declared.suggestion.fault.SuggestFault.{SuggestFault}
use Rattle.gw_policy_drafts.specs.declared.suggestion.fault.SuggestFault.TheVariants.{Write}
use Rattle.gw_policy_drafts.specs.declared.suggestion.suggestion.Manner.{Manner}

pub whole_left : (old new : Option (List ℕ)) (text before : List ℕ) → old ≡ Some before → Appends old new text
    → IsSomeAnd new (LeavesText text (Ok tt) before)
whole_left old new text before held appends =
    holds_known (LeavesText text (Ok tt) before) new (before ++ text) (appended old new before text held appends) refl

pub front_left : (old new : Option (List ℕ)) (text front rest before : List ℕ) → old ≡ Some before → text ≡ front ++ rest → Appends old new front
    → IsSomeAnd new (LeavesText text (Err Write) before)
front_left old new text front rest before held parts appends =
    holds_known (LeavesText text (Err Write) before) new (before ++ front) (appended old new before front held appends) (front, rest, refl, parts, refl)

pub made_left : (text : List ℕ) (manner : Manner) (result : Result (Unit {0}) SuggestFault) (new : Option (List ℕ)) (log before made : List ℕ)
    → IsSuggested text manner log made → IsSomeAnd new (LeavesText made result before)
    → IsSomeAnd new (LeavesSuggestion text manner result log before)
made_left text manner result None log before made is left = absurd left
made_left text manner (Ok done) (Some after) log before made is left = record { made = made; suggested = is; written = left }
made_left text manner (Err fault) (Some after) log before made is left = inr (record { made = made; suggested = is; written = left })

pub nothing_left : (text : List ℕ) (manner : Manner) (fault : SuggestFault) (held : Option (List ℕ)) (log before : List ℕ) → held ≡ Some before
    → IsSomeAnd held (LeavesSuggestion text manner (Err fault) log before)
nothing_left text manner fault held log before known =
    holds_known (LeavesSuggestion text manner (Err fault) log before) held before known (inl refl)
