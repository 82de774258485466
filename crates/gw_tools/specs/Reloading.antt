-- What is answered to a request to a running gateway, how that ends, and what `reload` does before it.
use Rattle.std.specs.Prelude.{◌≡◌, ℕ, Bool, true, false, List, [], Option, Some, None, Result, Ok, Err}
use Rattle.std.specs.Prelude.{codes, nat_eq, if◌then◌else◌, string_bytes}
use Rattle.std.specs.List.{starts_with}
use Rattle.gw_ask_sets.specs.assertions.Judging.{AreJudged}
use Rattle.gw_ask_sets.specs.declared.assertions.judging.Judged.{Judged}
use Rattle.gw_ask_sets.specs.declared.assertions.judging.TheConstants.{JUDGING_STEPS}
use Rattle.gw_configuration.specs.Configuration.{Configuration}
use Rattle.gw_ending.specs.Ending.{IsUnanswered, is_different, of_other}
use Rattle.gw_ending.specs.declared.fault.Fault.{Fault}
use Rattle.gw_ending.specs.declared.fault.Fault.TheVariants as fault
use Rattle.gw_ending.specs.declared.reading.printing.Said.{Said}
use Rattle.gw_ending.specs.reading.Assertions.{do_hold, unheld_text}
use Rattle.gw_ending.specs.reading.Configured.{IsConfigurationOf}
use Rattle.gw_ending.specs.reading.Printing.{LeavesSaid}
use Rattle.gw_notices.specs.Notices.{stop_line}
use Rattle.gw_system.specs.Request.{reload_request, status_request, stop_request}
use Rattle.gw_tool_line.specs.declared.options.Shown.{Shown}
use Rattle.gw_tools.specs.Comparing.{AreProgress, IsCompared, SaysCompared}
use Rattle.gw_tools.specs.Placed.{IsPlaced, IsPlacedIn, octets_or}
use Rattle.gw_tools.specs.Saying.{IsMemory, Says, SaysOf}
use Rattle.gw_tools.specs.declared.comparing.Layout.TheVariants as layout
use Rattle.gw_tools.specs.declared.placed.Placed.{Placed}

-- ---- a request

-- the answer to a request, to which this may be answered, or why there is none
abbrev pub IsAnswerTo : (Answers : List ℕ → Type 0) → Result (List ℕ) Fault → Type 0
IsAnswerTo Answers (Ok answer) = Answers answer
IsAnswerTo Answers (Err f) = IsUnanswered f

-- what may be answered to a request of a name and a text
abbrev pub Replying : Type 1
Replying = (name text answer : List ℕ) → Type 0

-- that, by what asking by these gives and what is answered to that
abbrev pub answers_by : {A : Type 0} → (Asks : List ℕ → List ℕ → A → Type 0) → (Answers : A → List ℕ → Type 0)
    → Replying
answers_by {A} Asks Answers name text answer = (asked : A) × Asks name text asked × Answers asked answer

-- how a request ends: the answer says whether it was done by what it begins with
abbrev pub outcome_of_answer : (granted answer : List ℕ) → Result (Unit {0}) Fault
outcome_of_answer granted answer = if starts_with nat_eq answer granted then Ok tt else Err fault.Refused

-- ---- what is said

-- What a request says: its answer, which says how it ends; or why there is none. `Answers` is what may be answered to it.
abbrev pub SaysAsked : (Answers : List ℕ → Type 0) → (granted : List ℕ) → Result Said Fault → Type 0
SaysAsked Answers granted said =
    Says (λ answer ends. Answers answer × (ends ≡ outcome_of_answer granted answer)) IsUnanswered said

-- what `stop` says by a request of this name
abbrev pub SaysStopped : Replying → (request : List ℕ) → Result Said Fault → Type 0
SaysStopped Answers request said = SaysAsked (Answers request stop_request) (stop_line None) said

-- What `status` says by a request of this name. An answer that says what is counted begins as a report does.
abbrev pub SaysStatus : Replying → (request : List ℕ) → Result Said Fault → Type 0
SaysStatus Answers request said = SaysAsked (Answers request status_request) (codes "stats ") said

-- what is said by a request to read the configuration of this text again, and no other
abbrev pub SaysAskedAgain : Replying → (request text : List ℕ) → Result Said Fault → Type 0
SaysAskedAgain Answers request text said = SaysAsked (Answers request (reload_request text)) (codes "reload: ") said

-- ---- `reload`

-- A configuration is held to its assertions: nothing is said if each of them holds, and else the lines of those that don't; or memory
-- ran out.
abbrev pub IsHeldTo : Configuration → Result (Option Said) Fault → Type 0
IsHeldTo c (Ok None) = (judged : List Judged) × AreJudged c JUDGING_STEPS judged × (do_hold judged ≡ true)
IsHeldTo c (Ok (Some refused)) =
    (judged : List Judged) × AreJudged c JUDGING_STEPS judged × (do_hold judged ≡ false)
    × (refused.text.items ≡ unheld_text c judged) × (refused.ends ≡ Err fault.Broken) × (refused.unprinted ≡ fault.Write)
IsHeldTo c (Err f) = IsMemory f

-- What is said of a configuration that is held so: if its assertions hold, what is answered to the request to read it again.
abbrev pub SaysHeld : (SaysAsked : Result Said Fault → Type 0) → Result (Option Said) Fault → Result Said Fault → Type 0
SaysHeld SaysAsked (Ok None) said = SaysAsked said
SaysHeld SaysAsked (Ok (Some refused)) said = said ≡ Ok refused
SaysHeld SaysAsked (Err f) said = said ≡ Err f

-- what `reload` says of a configuration of this text
abbrev pub SaysReload : Replying → (request text : List ℕ) → Configuration → Result Said Fault → Type 0
SaysReload Answers request text c said =
    (held : Result (Option Said) Fault) × IsHeldTo c held × SaysHeld (SaysAskedAgain Answers request text) held said

-- ---- `reload --was`

-- what it says after a comparison that ended with this fault, by whether that says that it found something: then it is none
abbrev pub SaysAfterFault : (found : Bool) → Replying → (request text : List ℕ) → Fault → Result Said Fault → Type 0
SaysAfterFault true Answers request text f said = SaysAskedAgain Answers request text said
SaysAfterFault false Answers request text f said = said ≡ Err f

-- and after one with this outcome
abbrev pub SaysAfter : Replying → (request text : List ℕ) → (compared : Result (Unit {0}) Fault) → Result Said Fault → Type 0
SaysAfter Answers request text (Ok done) said = SaysAskedAgain Answers request text said
SaysAfter Answers request text (Err f) said = SaysAfterFault (is_different f) Answers request text f said

-- What the new configuration, which has this text, changes of the old one is printed, and how far that is was reported; and then this
-- is said.
abbrev pub ShowsChange : Replying → (request text : List ℕ) → (most : ℕ) → (held mid : Option (List ℕ)) → (reported : List ℕ)
    → (old new : Placed) → Result Said Fault → Type 0
ShowsChange Answers request text most held mid reported old new said =
    (compared : Result Said Fault) × SaysCompared (IsCompared (record { most = most; layout = layout.Text false }) old new) compared
    × (shown : Result (Unit {0}) Fault) × LeavesSaid compared held mid shown × SaysAfter Answers request text shown said
    × AreProgress old.config new.config reported

-- That, if the new one is held so; and nothing is printed or reported if its assertions don't hold, or if there is no old one.
abbrev pub ShowsHeld : Replying → (request text : List ℕ) → (most : ℕ) → (held mid : Option (List ℕ)) → (reported : List ℕ)
    → Result (Option Said) Fault → Result Placed Fault → Placed → Result Said Fault → Type 0
ShowsHeld Answers request text most held mid reported (Ok None) (Ok old) new said =
    ShowsChange Answers request text most held mid reported old new said
ShowsHeld Answers request text most held mid reported (Ok None) (Err f) new said =
    (said ≡ Err (of_other f)) × (mid ≡ held) × (reported ≡ [])
ShowsHeld Answers request text most held mid reported (Ok (Some refused)) old new said =
    (said ≡ Ok refused) × (mid ≡ held) × (reported ≡ [])
ShowsHeld Answers request text most held mid reported (Err f) old new said = (said ≡ Err f) × (mid ≡ held) × (reported ≡ [])

-- The same of two that were read, and of why there is no new one.
abbrev pub ShowsReload : Replying → (request text : List ℕ) → (most : ℕ) → (held mid : Option (List ℕ)) → (reported : List ℕ)
    → (old new : Result Placed Fault) → Result Said Fault → Type 0
ShowsReload Answers request text most held mid reported old (Ok new) said =
    (sound : Result (Option Said) Fault) × IsHeldTo new.config sound
    × ShowsHeld Answers request text most held mid reported sound old new said
ShowsReload Answers request text most held mid reported old (Err f) said = (said ≡ Err f) × (mid ≡ held) × (reported ≡ [])

-- ---- of files

-- What is printed and reported of a text that was read, and of the configuration in the file of a name, if one is named; and what is
-- said then.
abbrev pub SaysReloadOf : (Reads : List ℕ → Result (List ℕ) Fault → Type 0) → Replying → (request : List ℕ)
    → (text : Result (List ℕ) Fault) → Option Shown → (held mid : Option (List ℕ)) → (reported : List ℕ) → Result Said Fault → Type 0
SaysReloadOf Reads Answers request text None held mid reported said =
    (c : Result Configuration Fault) × IsConfigurationOf text c × SaysOf (SaysReload Answers request (octets_or text)) c said
    × (mid ≡ held) × (reported ≡ [])
SaysReloadOf Reads Answers request text (Some shown) held mid reported said =
    (old : Result Placed Fault) × IsPlacedIn Reads (string_bytes shown.old) old × (new : Result Placed Fault) × IsPlaced text new
    × ShowsReload Answers request (octets_or text) shown.most held mid reported old new said

-- the same if that is the text of the file of this name
abbrev pub SaysReloadIn : (Reads : List ℕ → Result (List ℕ) Fault → Type 0) → Replying → (file request : List ℕ)
    → Option Shown → (held mid : Option (List ℕ)) → (reported : List ℕ) → Result Said Fault → Type 0
SaysReloadIn Reads Answers file request was held mid reported said =
    (text : Result (List ℕ) Fault) × Reads file text × SaysReloadOf Reads Answers request text was held mid reported said
