-- What a suggestion leaves written, and the flush after it.
use Rattle.std.proofs.Common.{◌≡◌, ◌⊎◌, ℕ, List, [], Bool, true, false, Result, Ok, Err, inl, inr, rules, sym}
use Rattle.std.proofs.lemmas.List.{append-nil}
use Rattle.gw_configuration.specs.declared.fault.ConfigFault.TheVariants as config
use Rattle.gw_policy_drafts.specs.suggestion.Suggestion.{LeavesMade, LeavesSuggestion}
use Rattle.gw_policy_drafts.specs.declared.suggestion.fault.SuggestFault.{SuggestFault}
use Rattle.gw_policy_drafts.specs.declared.suggestion.fault.SuggestFault.TheVariants as suggest
use Rattle.gw_policy_drafts.specs.declared.suggestion.suggestion.Manner.{Manner}
use Rattle.gw_tools.specs.Suggesting.{Suggests, WritesFront, first_suggestion_fault}

-- what was made is written in part only after a failed write
not_made : {B : Type 0} (f : SuggestFault) (text : List ℕ) (manner : Manner) (log before after : List ℕ)
    → (f ≡ suggest.Write → ⊥) → LeavesMade text manner (Err f) log before after → B
not_made f text manner log before after never made = absurd (never made.written.2)

module _ (text : List ℕ) (manner : Manner) (log before after : List ℕ) where
  same : (f : SuggestFault) → (f ≡ suggest.Write → ⊥) → LeavesSuggestion text manner (Err f) log before after → after ≡ before
  same f never (inl is) = is
  same f never (inr made) = not_made f text manner log before after never made

  at_write : LeavesSuggestion text manner (Err suggest.Write) log before after → (after ≡ before) ⊎ WritesFront text manner log before after
  at_write (inl is) = inl is
  at_write (inr made) = inr (record {
    made = made.made;
    suggested = made.suggested;
    front = made.written.0;
    rest = made.written.1;
    parts = made.written.3;
    written = made.written.4;
  })

  pub flushed_suggestion : (r : Result (Unit {0}) SuggestFault) (is_flushed : Bool) → LeavesSuggestion text manner r log before after
      → Suggests text manner log before (first_suggestion_fault r is_flushed) after
  flushed_suggestion (Ok done) true made = (made.made, made.suggested, made.written)
  flushed_suggestion (Ok done) false made = inr (record {
    made = made.made;
    suggested = made.suggested;
    front = made.made;
    rest = [];
    parts = sym (append-nil made.made);
    written = made.written;
  })
  flushed_suggestion (Err (suggest.Configuration config.NotToml)) flushed is = same _ (λ e. search rules) is
  flushed_suggestion (Err (suggest.Configuration config.UnknownKey)) flushed is = same _ (λ e. search rules) is
  flushed_suggestion (Err (suggest.Configuration config.Missing)) flushed is = same _ (λ e. search rules) is
  flushed_suggestion (Err (suggest.Configuration config.Kind)) flushed is = same _ (λ e. search rules) is
  flushed_suggestion (Err (suggest.Configuration config.Range)) flushed is = same _ (λ e. search rules) is
  flushed_suggestion (Err (suggest.Configuration config.Duplicate)) flushed is = same _ (λ e. search rules) is
  flushed_suggestion (Err (suggest.Configuration config.TooMany)) flushed is = same _ (λ e. search rules) is
  flushed_suggestion (Err (suggest.Configuration config.Memory)) flushed is = same _ (λ e. search rules) is
  flushed_suggestion (Err suggest.Read) flushed is = same _ (λ e. search rules) is
  flushed_suggestion (Err (suggest.Line n)) flushed is = same _ (λ e. search rules) is
  flushed_suggestion (Err suggest.TooManyAsks) flushed is = same _ (λ e. search rules) is
  flushed_suggestion (Err suggest.TooManyRules) flushed is = same _ (λ e. search rules) is
  flushed_suggestion (Err suggest.Unlike) flushed is = same _ (λ e. search rules) is
  flushed_suggestion (Err suggest.Write) flushed is = at_write is
  flushed_suggestion (Err suggest.Memory) flushed is = same _ (λ e. search rules) is
