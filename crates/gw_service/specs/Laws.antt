-- Laws of a run.
use Rattle.std.specs.Prelude.{◌≡◌, ⊤, ℕ, ◌<◌, ◌≤◌, ◌^◌, false, Bool, List, Some, None, Result, All}
use Rattle.gw_audit.specs.Entry.{IsShowable}
use Rattle.gw_audit.specs.declared.denial.Denial.{Denial}
use Rattle.gw_core.specs.Effects.{effects_at}
use Rattle.gw_core.specs.History.{state_from}
use Rattle.gw_core.specs.State.{State}
use Rattle.gw_core.specs.declared.event.Counts.{Counts}
use Rattle.gw_log_words.specs.LastDenial.{ShowsLast, last_denial}
use Rattle.gw_script.specs.Event.{Event}
use Rattle.gw_turns.specs.declared.serving.ServeFault.{ServeFault}
use Rattle.gw_system.specs.Requests.{nobody}
use Rattle.gw_service.specs.Chain.{AreLinks, Link, Manner, Runs, Stage}
use Rattle.gw_service.specs.Chain.{ended, served, ticked, unrequested, withheld}
use Rattle.gw_service.specs.declared.running.RunEnd.{RunEnd}
use Rattle.gw_configuration.specs.Configuration.{Configuration}
use Rattle.gw_service.specs.Counts.{GoesOnFrom}
use Rattle.gw_service.specs.Edition.{IsEdition}
use Rattle.gw_service.specs.Kept.{Given, LeavesKept, RunsBy, RunsWatched}
use Rattle.gw_service.specs.Plain.{RunsKept, RunsPlain, WatchesNothing}
use Rattle.gw_service.specs.Serving.{Ends, Serves, Service}
use Rattle.gw_service.specs.Start.{BeginsAs}
use Rattle.gw_state.specs.Saved.{Saved}
use Rattle.gw_service.specs.declared.fault.ServiceFault.{ServiceFault}

-- a gateway judges by the rules of the configuration in force
abbrev pub HasItsRules : {K : Type 0} → Stage K → Type 0
HasItsRules s = s.now.scene.gateway.rules ≡ s.config.rules

-- It does so wherever a chain leads, if it did at first.
abbrev pub RulesAreInForce : {K : Type 0} → Manner K → Type 0
RulesAreInForce {K} manner =
    (s t : Stage K) (links : List Link) → AreLinks manner s links t → HasItsRules s → HasItsRules t

-- In a stretch its rules stay.
abbrev pub RulesStay : Type 0
RulesStay = (w : State) (events : List Event) → (state_from w events).rules ≡ w.rules

-- what is counted has the checksum of a text of the configuration in force
abbrev pub HasItsChecksum : {K : Type 0} → Stage K → Type 0
HasItsChecksum s = (text : List ℕ) × IsEdition text (record { config = s.config; checksum = s.counts.checksum })

-- It has that wherever a chain leads, if it did at first.
abbrev pub ChecksumIsInForce : {K : Type 0} → Manner K → Type 0
ChecksumIsInForce {K} manner =
    (s t : Stage K) (links : List Link) → AreLinks manner s links t → HasItsChecksum s → HasItsChecksum t

-- A gateway that goes on from these counts and the last denial of its log gives each denial a greater number than that of the last
-- denial that was counted, and than that of the denial that the log's text shows last, whatever that holds before it, and after it
-- but denials.
abbrev pub NumbersGoOn : Type 0
NumbersGoOn =
    (counts later : Counts) (text : List ℕ) (shown : Denial) (w : State) (e : Event) → GoesOnFrom counts (last_denial text) later
    → IsShowable shown → ShowsLast text shown → shown.number ≤ 2 ^ 63 → w.denials ≡ later.denials
    → All (λ (d : Denial). (counts.denials < d.number) × (shown.number < d.number)) (effects_at w e).denials

-- If its log shows no denial, it gives each a greater number than that of its state. None has that number before 500 more came since the
-- last tick (`KeptIsAhead` of `gw_state_laws`).
abbrev pub NumbersGoOnAlone : Type 0
NumbersGoOnAlone =
    (c : Configuration) (s : Saved) (w : State) (e : Event) → BeginsAs c (Some s) None w
    → All (λ (d : Denial). s.counts.denials < d.number) (effects_at w e).denials

-- A run, whatever watches it, is the plain one but for what is reported: its log, its wire's calls, its state and its outcome are those
-- of one without what watches.
abbrev pub IsAsUnwatched : {S Q L : Type 0} → Given S Q L → Type 0
IsAsUnwatched {S} {Q} {L} given =
    (c : Configuration) (how : Service) (before after : Ends) (text : List ℕ) (outcome : Result (Unit {0}) ServiceFault)
    → RunsWatched given c how before after text outcome
    → (other : List ℕ) × RunsKept given c how before after other outcome

-- If nothing is watched it is the plain one also in what is reported, whether it goes on if its log fails or not.
abbrev pub IsAsPlain : {S Q L : Type 0} → Given S Q L → Type 0
IsAsPlain {S} {Q} {L} given =
    WatchesNothing given.watcher → (holds : Bool) (c : Configuration) (how : Service) (before after : Ends) (text : List ℕ)
    (outcome : Result (Unit {0}) ServiceFault) → RunsBy given holds c how before after text outcome
    → RunsPlain given holds c how before after text outcome

-- a link found no request
abbrev pub FindsNone : Link → Type 0
FindsNone (served turns) = ⊤
FindsNone (ticked turns look text) = look ≡ unrequested
FindsNone (withheld turns event text) = ⊤
FindsNone (ended turns text) = ⊥

-- Nobody asks: no look finds a request, the configuration in force stays, and none is counted as taken over or refused.
pub record StaysUnasked {K : Type 0} (s : Stage K) (links : List Link) (t : Stage K) : Type 0 where
  pub looks : All FindsNone links
  pub config : t.config ≡ s.config
  pub requests : t.requests ≡ nobody
  pub counts : t.counts ≡ s.counts

-- So is a run, however it ends, if nobody asks at its begin.
abbrev pub NobodyAsks : {K : Type 0} → Manner K → Type 0
NobodyAsks {K} manner =
    (count : ℕ) (s t : Stage K) (answer : Result RunEnd ServeFault) (links : List Link) → Runs manner count s answer links t
    → s.requests ≡ nobody → StaysUnasked s links t

-- A run that keeps no state, looks for no request, announces nothing and doesn't go on if its log fails, but may report or be
-- watched, is one of `serve` from the gateway's first state: its log, its wire's calls and its outcome are those.
abbrev pub IsAsServed : {S Q L : Type 0} → Given S Q L → Type 0
IsAsServed {S} {Q} {L} given =
    given.saved ≡ None → given.line ≡ None → given.store ≡ None → given.requests ≡ None
    → (c : Configuration) (how : Service) (before after : Ends) (text : List ℕ) (outcome : Result (Unit {0}) ServiceFault)
    → how.holds ≡ false → c.announce ≡ false → LeavesKept given c how before after text outcome → Serves c how.turns before after outcome
