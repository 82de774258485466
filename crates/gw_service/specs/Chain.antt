-- What a run is that keeps its state or reads its configuration again: a chain of stretches of serving, with what is done
-- between two of them.
use Rattle.std.specs.Prelude.{◌≡◌, ◌⊎◌, ⊤, ℕ, ◌+◌, ◌<◌, ◌≤◌, Bool, true, false, List, [], ◌∷◌, ◌++◌, length, Option, Some, None, Result, Ok}
use Rattle.std.specs.Prelude.{Err}
use Rattle.std.specs.Io.KnownBytes.{Appends, Keeps}
use Rattle.std.specs.List.{flat_map}
use Rattle.gw_configuration.specs.Configuration.{Configuration}
use Rattle.gw_policy_text.specs.Document.{configuration}
use Rattle.gw_core.specs.Resumed.{carried, saved}
use Rattle.gw_core.specs.State.{State}
use Rattle.gw_state.specs.Saved.{Origin, origin_of}
use Rattle.gw_script.specs.Event.{Event}
use Rattle.gw_script.specs.Event as event
use Rattle.gw_script.specs.declared.sink.WriteFailed.{WriteFailed}
use Rattle.gw_turns.specs.Announcing.{Announces, with_due}
use Rattle.gw_turns.specs.declared.announcing.Announcing.{Announcing}
use Rattle.gw_turns.specs.Serve.{Try, Turn, scene, taken_event}
use Rattle.gw_turns.specs.Stretch.{CanCount, EndsFaulty, GoOn, IsWithheld, Moment}
use Rattle.gw_wire.specs.Wire.{Call}
use Rattle.gw_turns.specs.declared.serving.ServeFault.{ServeFault}
use Rattle.gw_turns.specs.declared.serving.ServeState.{ServeState}
use Rattle.gw_turns.specs.declared.serving.Served.{Served}
use Rattle.gw_turns.specs.declared.tally.DropTally.{DropTally}
use Rattle.gw_system.specs.Requests.{Asking, Exchange, GoesOn, answered, asked, asked_to_say, asked_to_stop, unasked, untaken}
use Rattle.gw_system.specs.declared.reading.ReadFailure.{ReadFailure}
use Rattle.gw_notices.specs.Checksum.{checksum_of}
use Rattle.gw_notices.specs.Reload.{IsRefusalLine, with_refused, with_taken_over}
use Rattle.gw_service.specs.Reload.{IsRefused, have_same_ports, taken_over_line}
use Rattle.gw_notices.specs.metrics.Writing.{Metering}
use Rattle.gw_notices.specs.Notices.{IsStatusAnswer, metrics_notice, notice_of, untaken_line}
use Rattle.gw_service.specs.Metering.{failing_by, lost_by}
use Rattle.gw_service.specs.declared.running.RunEnd.{RunEnd}
use Rattle.gw_service.specs.declared.running.RunEnd.TheVariants as end
use Rattle.gw_notices.specs.declared.reload.ReloadCounts.{ReloadCounts}
use Rattle.gw_notices.specs.declared.reload.ReloadFault.{ReloadFault}
use Rattle.gw_notices.specs.declared.troubles.Troubles.{Troubles}

-- ---- what keeps the state

-- What a keeper of states does at an event, at a tick, and if the gateway goes on as one of another configuration; and what
-- isn't kept or recorded; what is reported after a tick, and of what is counted if that is asked for; how metrics are put then; and
-- what it does at the end.
pub record Manner (K : Type 0) : Type 1 where
  pub Passes : K → State → Event → K → Bool → Type 0
  pub Ticks : K → State → K → Type 0
  pub Adopts : K → Configuration → State → K → Type 0
  pub troubles : K → Troubles
  pub report : K → ReloadCounts → Announcing → Option ℕ → State → Served → DropTally → List ℕ
  pub status : K → ReloadCounts → Announcing → Option ℕ → State → Served → DropTally → List ℕ
  pub Meters : State → Served → DropTally → (before after : Option Metering) → Type 0
  pub Lasts : K → State → K → Type 0

abbrev pub manner : {K : Type 0} → (K → State → Event → K → Bool → Type 0) → (K → State → K → Type 0)
    → (K → Configuration → State → K → Type 0) → (K → Troubles)
    → (report status : K → ReloadCounts → Announcing → Option ℕ → State → Served → DropTally → List ℕ)
    → (State → Served → DropTally → (before after : Option Metering) → Type 0) → (K → State → K → Type 0) → Manner K
manner Passes Ticks Adopts troubles report status Meters Lasts = record {
  Passes = Passes;
  Ticks = Ticks;
  Adopts = Adopts;
  troubles = troubles;
  report = report;
  status = status;
  Meters = Meters;
  Lasts = Lasts;
}

-- what serving keeps from turn to turn can count the turns that are left
abbrev pub CanGoOn : ServeState → (wire_failures : ℕ) → Type 0
CanGoOn s wire_failures = CanCount s.served s.tally wire_failures s.left

-- ---- a request

-- the gateway, its keeper, what is known of requests, how often there was one and which text is in force, and what is to be announced
pub record Standing (K : Type 0) : Type 0 where
  pub gateway : State
  pub keeper : K
  pub requests : Asking
  pub counts : ReloadCounts
  pub announcing : Announcing

abbrev pub standing : {K : Type 0} → State → K → Asking → ReloadCounts → Announcing → Standing K
standing w keeper requests counts announcing = record {
  gateway = w;
  keeper = keeper;
  requests = requests;
  counts = counts;
  announcing = announcing;
}

-- What comes of looking for a request: there is none; something has its name and isn't taken; there is one to stop; there is one
-- to say what is counted, and this is answered; there is one to read the configuration again, and that isn't taken over, which this
-- line says; or it is.
pub data Look : Type 0 where
  unrequested : Look
  passed_over : Look
  stopping : Look
  inquired : (answer : List ℕ) → Look
  refused : (read : Result (Option (List ℕ)) ReadFailure) (fault : ReloadFault) (line : List ℕ) → Look
  taken_over : (text : List ℕ) (config : Configuration) → Look

-- All stays as it is.
pub record Stays {K : Type 0} (c : Configuration) (s : Standing K) (d : Configuration) (t : Standing K) : Type 0 where
  pub config : d ≡ c
  pub gateway : t.gateway ≡ s.gateway
  pub keeper : t.keeper ≡ s.keeper
  pub announcing : t.announcing ≡ s.announcing

-- The configuration isn't taken over, and the request is answered by a line that says why.
pub record IsRefusedSo {K : Type 0} (c : Configuration) (s : Standing K) (read : Result (Option (List ℕ)) ReadFailure)
    (fault : ReloadFault) (line : List ℕ) (d : Configuration) (t : Standing K) : Type 0 where
  pub why : IsRefused s.gateway read fault
  pub says : IsRefusalLine read fault line
  pub stays : Stays c s d t
  pub requests : GoesOn s.requests t.requests (asked read ∷ answered line ∷ [])
  pub counts : t.counts ≡ with_refused s.counts

-- The configuration of the text is in force: the gateway goes on as one of it that takes over what is saved, and an
-- announcement is due.
pub record IsTakenOver {K : Type 0} (Adopts : K → Configuration → State → K → Type 0) (c : Configuration) (s : Standing K) (text : List ℕ)
    (new : Configuration)
    (d : Configuration) (t : Standing K) : Type 0 where
  pub config : d ≡ new
  pub reads : configuration text ≡ Ok new
  pub ports : have_same_ports s.gateway.relay.ports new.ports ≡ true
  pub gateway : t.gateway ≡ carried new (saved c s.gateway)
  pub keeper : Adopts s.keeper new t.gateway t.keeper
  pub requests : GoesOn s.requests t.requests
      (asked (Ok (Some text)) ∷ answered (taken_over_line s.gateway new (saved c s.gateway)) ∷ [])
  pub counts : t.counts ≡ with_taken_over s.counts s.gateway.ticks (checksum_of text)
  pub announcing : t.announcing ≡ with_due s.announcing

-- There was no request.
pub record IsUnrequested {K : Type 0} (c : Configuration) (s : Standing K) (d : Configuration) (t : Standing K) : Type 0 where
  pub stays : Stays c s d t
  pub requests : GoesOn s.requests t.requests (unasked ∷ [])
  pub counts : t.counts ≡ s.counts

-- There was a request, or something of its name, after which all stays as it is.
pub record IsAskedFor {K : Type 0} (exchange : Exchange) (c : Configuration) (s : Standing K) (d : Configuration)
    (t : Standing K) : Type 0 where
  pub stays : Stays c s d t
  pub requests : GoesOn s.requests t.requests (exchange ∷ [])
  pub counts : t.counts ≡ s.counts

-- There was a request to say what is counted, which was answered so, and all stays as it is.
pub record IsInquired {K : Type 0} (c : Configuration) (s : Standing K) (answer : List ℕ) (d : Configuration)
    (t : Standing K) : Type 0 where
  pub stays : Stays c s d t
  pub requests : GoesOn s.requests t.requests (asked_to_say ∷ answered answer ∷ [])
  pub counts : t.counts ≡ s.counts

-- the gateway is to stop
abbrev pub is_stopping : Look → Bool
is_stopping unrequested = false
is_stopping passed_over = false
is_stopping stopping = true
is_stopping (inquired answer) = false
is_stopping (refused read fault line) = false
is_stopping (taken_over text new) = false

abbrev pub IsLooked : {K : Type 0} → (Adopts : K → Configuration → State → K → Type 0) → Configuration → Standing K → Look
    → Configuration → Standing K → Type 0
IsLooked Adopts c s unrequested d t = IsUnrequested c s d t
IsLooked Adopts c s passed_over d t = IsAskedFor untaken c s d t
IsLooked Adopts c s stopping d t = IsAskedFor asked_to_stop c s d t
IsLooked Adopts c s (inquired answer) d t = IsInquired c s answer d t
IsLooked Adopts c s (refused read fault line) d t = IsRefusedSo c s read fault line d t
IsLooked Adopts c s (taken_over text new) d t = IsTakenOver Adopts c s text new d t

-- what is said of it
abbrev pub look_text : {K : Type 0} → Configuration → Standing K → Look → List ℕ
look_text c s unrequested = []
look_text c s passed_over = untaken_line
look_text c s stopping = []
look_text c s (inquired answer) = []
look_text c s (refused read fault line) = line
look_text c s (taken_over text new) = taken_over_line s.gateway new (saved c s.gateway)

-- At a tick the keeper does what is due, and then a request is looked for.
pub record AtTick {K : Type 0} (Ticks : K → State → K → Type 0) (Adopts : K → Configuration → State → K → Type 0) (c : Configuration)
    (s : Standing K) (look : Look) (d : Configuration) (t : Standing K) : Type 0 where
  pub keeper : K
  pub ticks : Ticks s.keeper s.gateway keeper
  pub looked : IsLooked Adopts c (standing s.gateway keeper s.requests s.counts s.announcing) look d t

-- The log takes a note of the line of a configuration that was read again, written or not; else it stays as it is.
abbrev pub IsNoted : {L : Type 0} → (Takes : L → List ℕ → Result (Unit {0}) WriteFailed → L → Type 0) → (log log_then : L) → Look → List ℕ
    → Type 0
IsNoted Takes log log_then unrequested line = log_then ≡ log
IsNoted Takes log log_then passed_over line = log_then ≡ log
IsNoted Takes log log_then stopping line = log_then ≡ log
IsNoted Takes log log_then (inquired answer) line = log_then ≡ log
IsNoted Takes log log_then (refused read fault says) line = (written : Result (Unit {0}) WriteFailed) × Takes log line written log_then
IsNoted Takes log log_then (taken_over text new) line = (written : Result (Unit {0}) WriteFailed) × Takes log line written log_then

-- A request to say what is counted is answered by this report, if there is memory for it.
abbrev pub IsStatusIn : (report : List ℕ) → Look → Type 0
IsStatusIn report unrequested = ⊤
IsStatusIn report passed_over = ⊤
IsStatusIn report stopping = ⊤
IsStatusIn report (inquired answer) = IsStatusAnswer report answer
IsStatusIn report (refused read fault line) = ⊤
IsStatusIn report (taken_over text new) = ⊤

-- So it is noted, and this says whether the gateway is to stop.
abbrev pub IsNotedBy : {L : Type 0} → (Takes : L → List ℕ → Result (Unit {0}) WriteFailed → L → Type 0) → (log log_then : L)
    → (stops : Bool)
    → Look → List ℕ → Type 0
IsNotedBy Takes log log_then stops look line = IsNoted Takes log log_then look line × (stops ≡ is_stopping look)

-- and what is counted is said by this report, if that is asked for
abbrev pub IsNotedWith : {L : Type 0} → (Takes : L → List ℕ → Result (Unit {0}) WriteFailed → L → Type 0) → (log log_then : L)
    → (stops : Bool)
    → (report : List ℕ) → Look → List ℕ → Type 0
IsNotedWith Takes log log_then stops report look line = IsNotedBy Takes log log_then stops look line × IsStatusIn report look

-- What is done about a request, whatever configuration this origin is of: one of these looks, which leads to one of a
-- configuration of that origin; what is said of it is written, if that never fails; and the log takes a note of it.
abbrev pub Looks : {K : Type 0} → (Done : Configuration → Standing K → Look → Configuration → Standing K → Type 0)
    → (Noted : Look → List ℕ → Type 0) → Origin → Standing K → Origin → Standing K → (Never : Type 0) → (held holds : Option (List ℕ))
    → Type 0
Looks Done Noted o s p t Never held holds =
    (c : Configuration) → o ≡ origin_of c → (d : Configuration) × (look : Look) × (p ≡ origin_of d)
    × Done c s look d t × (Never → Appends held holds (look_text c s look)) × Noted look (look_text c s look)

-- ---- one stretch, and what is done after it

-- what there is between two stretches: the configuration in force; the gateway, the log, the wire, the keeper and what was
-- counted; what was asked and answered, how often, and which text is in force; what is to be announced; what was reported last of
-- what isn't kept or recorded; and how metrics are put, if they are
pub record Stage (K : Type 0) : Type 0 where
  pub config : Configuration
  pub now : Moment K
  pub requests : Asking
  pub counts : ReloadCounts
  pub announcing : Announcing
  pub said : Troubles
  pub metrics : Option Metering

abbrev pub stage : {K : Type 0} → Configuration → Moment K → Asking → ReloadCounts → Announcing → Troubles → Option Metering → Stage K
stage config now requests counts announcing said metrics = record {
  config = config;
  now = now;
  requests = requests;
  counts = counts;
  announcing = announcing;
  said = said;
  metrics = metrics;
}

abbrev pub standing_at : {K : Type 0} → Moment K → Asking → ReloadCounts → Announcing → Standing K
standing_at now requests counts announcing = standing now.scene.gateway now.guard requests counts announcing

-- The log and the counts are as they were.
pub record IsIdle {K : Type 0} (before after : Moment K) : Type 0 where
  pub log : after.scene.log ≡ before.scene.log
  pub served : after.served ≡ before.served
  pub tally : after.tally ≡ before.tally

-- Turns that were served; turns to a tick, and what came of looking for a request then; or turns, and an event whose
-- datagrams the keeper withheld; or turns to a tick, and the gateway was asked to stop. Each with what was reported then.
pub data Link : Type 0 where
  served : (turns : List Turn) → Link
  ticked : (turns : List Turn) (look : Look) (text : List ℕ) → Link
  withheld : (turns : List Turn) (event : Event) (text : List ℕ) → Link
  ended : (turns : List Turn) (text : List ℕ) → Link

-- turns were served, and nothing else was done
pub record IsServed {K : Type 0} (manner : Manner K) (s : Stage K) (turns : List Turn) (t : Stage K) : Type 0 where
  pub went : GoOn manner.Passes s.now turns t.now
  pub config : t.config ≡ s.config
  pub requests : t.requests ≡ s.requests
  pub counts : t.counts ≡ s.counts
  pub announcing : t.announcing ≡ s.announcing
  pub said : t.said ≡ s.said
  pub metrics : t.metrics ≡ s.metrics

-- turns were served, the last of which took a tick, and what was due then was done, announced and reported; and whether the
-- gateway is to stop
pub record IsTicked {K : Type 0} (manner : Manner K) (stops : Bool) (s : Stage K) (turns : List Turn) (look : Look) (text : List ℕ)
    (t : Stage K)
    : Type 0 where
  pub is : stops ≡ is_stopping look
  pub before : List Turn
  pub tries : List Try
  pub tick : turns ≡ before ++ taken_event event.Tick tries ∷ []
  pub then : Moment K
  pub went : GoOn manner.Passes s.now turns then
  pub ticks : then.scene.gateway.ticks ≡ s.now.scene.gateway.ticks + 1
  pub due : Announcing
  pub done : AtTick manner.Ticks manner.Adopts s.config (standing_at then s.requests s.counts s.announcing) look t.config
      (standing_at t.now t.requests t.counts due)
  pub status : IsStatusIn (manner.status t.now.guard t.counts due (lost_by s.metrics) t.now.scene.gateway t.now.served t.now.tally) look
  pub announced : Announces due t.now.scene.gateway then.scene.calls t.announcing t.now.scene.calls
  pub rest : IsIdle then t.now
  pub said : t.said ≡ manner.troubles t.now.guard
  pub metrics : manner.Meters t.now.scene.gateway t.now.served t.now.tally s.metrics t.metrics
  pub lines : text ≡ ((look_text s.config (standing_at then s.requests s.counts s.announcing) look ++ notice_of s.said t.said)
      ++ manner.report t.now.guard t.counts t.announcing (lost_by s.metrics) t.now.scene.gateway t.now.served t.now.tally)
      ++ metrics_notice (failing_by s.metrics) (failing_by t.metrics)

-- The keeper didn't let the datagrams of the last event go, and that was reported.
pub record IsHeldBack {K : Type 0} (manner : Manner K) (s : Stage K) (turns : List Turn) (event : Event) (text : List ℕ) (t : Stage K)
    : Type 0 where
  pub then : Moment K
  pub went : GoOn manner.Passes s.now turns then
  pub last : IsWithheld manner.Passes then event t.now
  pub config : t.config ≡ s.config
  pub requests : t.requests ≡ s.requests
  pub counts : t.counts ≡ s.counts
  pub announcing : t.announcing ≡ s.announcing
  pub metrics : t.metrics ≡ s.metrics
  pub said : t.said ≡ manner.troubles t.now.guard
  pub lines : text ≡ notice_of s.said t.said

-- After one that was asked to stop there is no other.
abbrev pub IsLink : {K : Type 0} → Manner K → Stage K → Link → Stage K → Type 0
IsLink manner s (served turns) t = IsServed manner s turns t
IsLink manner s (ticked turns look text) t = IsTicked manner false s turns look text t
IsLink manner s (withheld turns event text) t = IsHeldBack manner s turns event text t
IsLink manner s (ended turns text) t = ⊥

-- ---- the begin

-- a stage once something was announced, or not: its announcements and the calls of its wire are these
abbrev pub announced_at : {K : Type 0} → Stage K → Announcing → Option (List Call) → Stage K
announced_at s announcing calls = record s {
  now = record s.now { scene = scene s.now.scene.gateway s.now.scene.log calls };
  announcing = announcing;
}

-- What is due is announced before the first turn, and a stage is this one then.
pub record Begins {K : Type 0} (s t : Stage K) : Type 0 where
  pub announced : Announces s.announcing s.now.scene.gateway s.now.scene.calls t.announcing t.now.scene.calls
  pub is : t ≡ announced_at s t.announcing t.now.scene.calls

-- ---- a chain

-- what these links lead to, one after the other
unfoldable pub AreLinks : {K : Type 0} → Manner K → Stage K → List Link → Stage K → Type 0
AreLinks manner s [] t = t ≡ s
AreLinks {K} manner s (link ∷ links) t = (next : Stage K) × IsLink manner s link next × AreLinks manner next links t

-- what a link reported
abbrev pub link_text : Link → List ℕ
link_text (served turns) = []
link_text (ticked turns look text) = text
link_text (withheld turns event text) = text
link_text (ended turns text) = text

abbrev pub chain_text : List Link → List ℕ
chain_text links = flat_map link_text links

-- so many turns were served
pub record RunsWhole {K : Type 0} (manner : Manner K) (count : ℕ) (first : Stage K) (links : List Link) (last : Stage K) : Type 0 where
  pub chain : AreLinks manner first links last
  pub turns : last.now.served.turns ≡ first.now.served.turns + count

-- the last event ended in a fault; if the log failed, this is what it lacks of the event's lines
pub record EndsSo {K : Type 0} (manner : Manner K) (count : ℕ) (fault : ServeFault) (unwritten : List ℕ)
    (then last : Stage K) : Type 0 where
  pub ends : EndsFaulty manner.Passes count then.now fault unwritten last.now
  pub config : last.config ≡ then.config
  pub requests : last.requests ≡ then.requests
  pub counts : last.counts ≡ then.counts
  pub announcing : last.announcing ≡ then.announcing
  pub said : last.said ≡ then.said
  pub metrics : last.metrics ≡ then.metrics

-- it did so before so many turns were served
pub record RunsUntil {K : Type 0} (manner : Manner K) (fault : ServeFault) (count : ℕ) (first : Stage K) (links : List Link)
    (last : Stage K)
    : Type 0 where
  pub then : Stage K
  pub chain : AreLinks manner first links then
  pub left : ℕ
  pub most : then.now.served.turns + left ≡ first.now.served.turns + count
  pub unwritten : List ℕ
  pub ends : EndsSo manner left fault unwritten then last

-- at a tick it was asked to stop, and nothing was served after that
pub record RunsToStop {K : Type 0} (manner : Manner K) (first : Stage K) (links : List Link) (last : Stage K) : Type 0 where
  pub then : Stage K
  pub before : List Link
  pub chain : AreLinks manner first before then
  pub turns : List Turn
  pub text : List ℕ
  pub stops : IsTicked manner true then turns stopping text last
  pub is : links ≡ before ++ ended turns text ∷ []

-- At a tick the log couldn't be made to last, and nothing was done after that turn, at most the last of so many.
pub record RunsUnsynced {K : Type 0} (manner : Manner K) (count : ℕ) (first : Stage K) (links : List Link) (last : Stage K) : Type 0 where
  pub then : Stage K
  pub before : List Link
  pub chain : AreLinks manner first before then
  pub turns : List Turn
  pub tries : List Try
  pub goes : IsServed manner then (turns ++ taken_event event.Tick tries ∷ []) last
  pub is : links ≡ before ++ served (turns ++ taken_event event.Tick tries ∷ []) ∷ []
  pub most : last.now.served.turns ≤ first.now.served.turns + count

-- what a run of so many turns leads to, by its answer
abbrev pub Runs : {K : Type 0} → Manner K → ℕ → Stage K → Result RunEnd ServeFault → List Link → Stage K → Type 0
Runs manner count first (Ok end.Turns) links last = RunsWhole manner count first links last
Runs manner count first (Ok end.Stopped) links last = RunsToStop manner first links last
Runs manner count first (Ok end.Unsynced) links last = RunsUnsynced manner count first links last
Runs manner count first (Err fault) links last = RunsUntil manner fault count first links last

-- ---- what is due at a tick

-- What a stretch leaves: whether the wire has a tick that is due already; that the log lasted, and nothing was written to it since but
-- notes; that it couldn't be made to last; and what it lacks of the last event's lines, if it failed at them.
pub record Edge : Type 1 where
  pub behind : Bool
  pub Lasted : Type 0
  pub Unsynced : Type 0
  pub unwritten : List ℕ

abbrev pub edge : Bool → (Lasted Unsynced : Type 0) → (unwritten : List ℕ) → Edge
edge behind Lasted Unsynced unwritten = record { behind = behind; Lasted = Lasted; Unsynced = Unsynced; unwritten = unwritten }

-- a log lasted, and what it held then it holds
abbrev pub WasLasting : {L : Type 0} → (IsLasting : L → Type 0) → (held : L → Option (List ℕ)) → L → Type 0
WasLasting {L} IsLasting held log = (then : L) × IsLasting then × Keeps (held then) (held log)

-- a log was to be made to last, and that failed
abbrev pub FailsToLast : {L : Type 0} → (Syncs : L → Result (Unit {0}) WriteFailed → L → Type 0) → L → Type 0
FailsToLast {L} Syncs log = (then : L) × (failed : WriteFailed) × Syncs then (Err failed) log

-- What is due at a tick is done, unless another tick is due already at the wire, and is done then only if none is; the log is made to
-- last before that. (Turns that were served alone took no tick, or a next one was due.)
abbrev pub DoesDue : {K : Type 0} → Stage K → Link → Stage K → Edge → Type 0
DoesDue s (served turns) t edge = (t.now.scene.gateway.ticks ≡ s.now.scene.gateway.ticks) ⊎ (edge.behind ≡ true)
DoesDue s (ticked turns look text) t edge = (edge.behind ≡ false) × edge.Lasted
DoesDue s (withheld turns event text) t edge = ⊤
DoesDue s (ended turns text) t edge = (edge.behind ≡ false) × edge.Lasted

-- what is done after a stretch of at most so many turns, by whether the gateway is to stop
abbrev pub AdvancesBy : {K : Type 0} → Manner K → (stops : Bool) → Stage K → List ℕ → Stage K → Edge → Type 0
AdvancesBy manner false s text t edge = (link : Link) × IsLink manner s link t × (text ≡ link_text link) × DoesDue s link t edge
AdvancesBy manner true s text t edge =
    (turns : List Turn) × IsTicked manner true s turns stopping text t × DoesDue s (ended turns text) t edge

-- Turns were served to a tick behind which no other is due, the log couldn't be made to last, and nothing else was done.
pub record AdvancesUnsynced {K : Type 0} (manner : Manner K) (count : ℕ) (s : Stage K) (text : List ℕ) (t : Stage K) (edge : Edge)
    : Type 0 where
  pub turns : List Turn
  pub tries : List Try
  pub goes : IsServed manner s (turns ++ taken_event event.Tick tries ∷ []) t
  pub fewer : length turns < count
  pub silent : text ≡ []
  pub now : edge.behind ≡ false
  pub failed : edge.Unsynced

-- how a run ends after a tick, if it is asked to stop then
abbrev pub end_of : (stops : Bool) → Option RunEnd
end_of true = Some end.Stopped
end_of false = None

-- what comes of a stretch of at most so many turns and of what is done after it, with what is reported then
abbrev pub Advances : {K : Type 0} → Manner K → ℕ → Stage K → Result (Option RunEnd) ServeFault → List ℕ → Stage K → Edge → Type 0
Advances manner count s (Ok None) text t edge = AdvancesBy manner false s text t edge
Advances manner count s (Ok (Some end.Turns)) text t edge = ⊥
Advances manner count s (Ok (Some end.Stopped)) text t edge = AdvancesBy manner true s text t edge
Advances manner count s (Ok (Some end.Unsynced)) text t edge = AdvancesUnsynced manner count s text t edge
Advances manner count s (Err fault) text t edge = EndsSo manner count fault edge.unwritten s t × (text ≡ [])
