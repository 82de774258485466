-- What `state` says of the text of a state.
use Rattle.std.specs.Prelude.{◌≡◌, ⊤, ℕ, List, Some, Result, Ok, Err}
use Rattle.gw_configuration.specs.Configuration.{Configuration}
use Rattle.gw_state.specs.Saved.{Saved}
use Rattle.gw_state_text.specs.Place.{IsPlaceOf}
use Rattle.gw_state_text.specs.Text.{state_text}
use Rattle.gw_state_words.specs.Words.{state_words}
use Rattle.gw_ending.specs.declared.fault.Fault.{Fault}
use Rattle.gw_ending.specs.declared.fault.Fault.TheVariants as fault
use Rattle.gw_ending.specs.declared.reading.printing.Said.{Said}
use Rattle.gw_ending.specs.reading.Configured.{IsConfigured}
use Rattle.gw_tools.specs.Saying.{SaysMade, SaysOf}

-- what a state of this text holds, and what of it the configuration takes over; or the line up to which the text is
-- that of a state; memory may run out at any text
abbrev pub IsSaidOf : Configuration → List ℕ → Result (List ℕ) Fault → Type 0
IsSaidOf c text (Ok words) = (saved : Saved) × (text ≡ state_text saved) × (words ≡ state_words c saved)
IsSaidOf c text (Err (fault.State f)) = IsPlaceOf text f.line
IsSaidOf c text (Err fault.Memory) = ⊤
IsSaidOf c text (Err _) = ⊥

-- the same of a text that was read, or why none was
abbrev pub IsSaidOfText : Configuration → Result (List ℕ) Fault → Result (List ℕ) Fault → Type 0
IsSaidOfText c (Ok text) words = IsSaidOf c text words
IsSaidOfText c (Err f) words = words ≡ Err f

-- What is said of the state in a file under the configuration in another. If there is no configuration, that is why nothing is said.
abbrev pub SaysStateIn : (Reads ReadsState : List ℕ → Result (List ℕ) Fault → Type 0) → (config state : List ℕ)
    → Result Said Fault → Type 0
SaysStateIn Reads ReadsState config state said =
    (c : Result Configuration Fault) × IsConfigured Reads (Some config) c
    × (text : Result (List ℕ) Fault) × ReadsState state text × SaysOf (λ c. SaysMade (IsSaidOfText c text)) c said
