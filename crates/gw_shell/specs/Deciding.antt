-- What `replay --stats` reports of the asks of a script, over the definitions of `gw_replay`.
use Rattle.std.specs.Prelude.{◌≡◌, ◌⊎◌, ℕ, Bool, true, false, List, [], Option, Some, None, Result, Ok, Err, codes}
use Rattle.gw_configuration.specs.Configuration.{Configuration}
use Rattle.gw_replay.specs.Decisions.{IsReport}
use Rattle.gw_policy_text.specs.declared.setting.TheConstants.{SETTING}
use Rattle.gw_shell.specs.declared.deciding.Decisions.{Decisions}
use Rattle.gw_shell.specs.declared.deciding.Decisions.TheVariants.{Counted, Silent, Uncounted}
use Rattle.gw_ending.specs.declared.fault.Fault.{Fault}
use Rattle.gw_ending.specs.declared.fault.Fault.TheVariants as fault

-- what is written of the asks of a script
abbrev pub decisions_text : Decisions → List ℕ
decisions_text (Counted lines) = lines.items
decisions_text Uncounted = codes "bacgw: asks aren't counted: out of memory\n"
decisions_text Silent = []

-- why a script isn't read
abbrev pub IsUnread : Fault → Type 0
IsUnread f = (f ≡ fault.Read) ⊎ (f ≡ fault.Memory)

-- what is reported of the asks of a script: how many of them each rule decides, or that memory was refused for it
abbrev pub IsDecided : Configuration → List ℕ → List ℕ → Type 0
IsDecided c script said = IsReport c script said ⊎ (said ≡ codes "bacgw: asks aren't counted: out of memory\n")

-- The same after a replay with this outcome: nothing if it ended before the script's last event, at another fault than
-- that of a line.
abbrev pub IsDecidedAt : Configuration → List ℕ → Result (Unit {0}) Fault → List ℕ → Type 0
IsDecidedAt c script (Ok done) said = IsDecided c script said
IsDecidedAt c script (Err (fault.Line n)) said = IsDecided c script said
IsDecidedAt c script (Err (fault.FlawedLine n f)) said = IsDecided c script said
IsDecidedAt c script (Err _) said = said ≡ []

-- What `replay` reports under the configuration that was read: with `--stats` that, if there is a configuration, and
-- without it nothing.
abbrev pub ReportsAsks : (counts : Bool) → (input : Option (List ℕ)) → Result Configuration Fault → Result (Unit {0}) Fault
    → (said : List ℕ) → Type 0
ReportsAsks false input c outcome said = said ≡ []
ReportsAsks true input (Ok c) outcome said = (script : List ℕ) → input ≡ Some script → IsDecidedAt c script outcome said
ReportsAsks true input (Err f) outcome said = said ≡ []

-- the text of the file of this name, or the built-in one if no file is named
abbrev pub IsTextFor : (Reads : List ℕ → Result (List ℕ) Fault → Type 0) → Option (List ℕ) → Result (List ℕ) Fault → Type 0
IsTextFor Reads None (Ok text) = text ≡ SETTING.now
IsTextFor Reads None (Err f) = f ≡ fault.Memory
IsTextFor Reads (Some name) text = Reads name text
