-- That nothing of an event is sent before its lines are in the log.
use Rattle.std.proofs.Common.{◌≡◌, ◌∙◌, sym, subst, ℕ, Bool, List, [], ◌∷◌, ◌++◌, Option}
use Rattle.std.proofs.KnownBytes.{Appends-nil, Appends-trans}
use Rattle.std.proofs.lemmas.List.{append-nil}
use Rattle.std.specs.Prelude.{Ok, Err}
use Rattle.std.specs.Io.KnownBytes.{Appends}
use Rattle.gw_script.specs.Event.{Event}
use Rattle.gw_script.specs.Event as event
use Rattle.gw_core.specs.History.{run_from}
use Rattle.gw_core.specs.State.{State}
use Rattle.gw_core.specs.Effects.{effects_at}
use Rattle.gw_turns.proofs.ServeLemmas.{tells_more}
use Rattle.gw_turns.proofs.ServedLemmas.{sent_run, tried_no_more, with_arrival}
use Rattle.gw_turns.specs.Logged.{IsLoggedFirst, ServingLogsFirst, StopsLogFirst, StretchesLogFirst}
use Rattle.gw_turns.specs.Serve.{EndsBy, LeadTo, Scene, Turn, calls_of, events_of, lines_of, log_of, taken_event}
use Rattle.gw_turns.specs.declared.serving.ServeFault.{ServeFault}
use Rattle.gw_turns.specs.declared.serving.ServeFault.TheVariants.{Log, Memory, CountEnd}
use Rattle.gw_turns.specs.declared.stretch.StretchEnd.TheVariants.{Turns, Tick, Withheld}
use Rattle.gw_wire.specs.Wire.{Records, arrival}

-- whole turns
led_logged : (before after : Scene) (turns : List Turn) → LeadTo before turns after → IsLoggedFirst before after
led_logged before after turns went = record {
  calls = calls_of turns;
  recorded = went.calls;
  events = events_of turns;
  sent = sent_run before.gateway turns went.each;
  more = [];
  logged = subst (λ (l : List ℕ). Appends before.log after.log l)
      (sym (append-nil (log_of (run_from before.gateway (events_of turns))))) went.log;
}

-- and a last event, of which nothing was tried, and of which the log got this
last_logged : (before moment after : Scene) (turns : List Turn) (event : Event) (more : List ℕ) → LeadTo before turns moment
    → Records moment.calls after.calls (arrival event ∷ []) → Appends moment.log after.log more → IsLoggedFirst before after
last_logged before moment after turns event more went calls log = record {
  calls = with_arrival turns event;
  recorded = tells_more before.calls moment.calls after.calls (calls_of turns) (arrival event ∷ []) went.calls calls;
  events = events_of turns;
  sent = tried_no_more turns event ∙ sent_run before.gateway turns went.each;
  more = more;
  logged = Appends-trans before.log moment.log after.log (log_of (run_from before.gateway (events_of turns))) more went.log log;
}

nothing_more : (before after : Option (List ℕ)) → after ≡ before → Appends before after []
nothing_more before after same = subst (λ (o : Option (List ℕ)). Appends before o []) (sym same) (Appends-nil before)

-- a last event that ended in a fault
fault_logged : (fault : ServeFault) (unwritten : List ℕ) (before moment after : Scene) (turns : List Turn) (event : Event)
    → LeadTo before turns moment → EndsBy fault unwritten moment event after → IsLoggedFirst before after
fault_logged Log unwritten before moment after turns event went last =
    last_logged before moment after turns event last.front went last.taken.calls last.log
fault_logged Memory unwritten before moment after turns event went last =
    last_logged before moment after turns event [] went last.taken.calls (nothing_more moment.log after.log last.log)
fault_logged CountEnd unwritten before moment after turns event went last =
    last_logged before moment after turns event [] went last.calls (nothing_more moment.log after.log last.log)

pub stretches_log_first : {G : Type 0} (Passes : G → State → Event → G → Bool → Type 0) → StretchesLogFirst Passes
stretches_log_first Passes count before after (Ok Turns) unwritten ends = led_logged before.scene after.scene ends.turns ends.went.went
stretches_log_first Passes count before after (Ok Tick) unwritten ends =
    led_logged before.scene after.scene (ends.turns ++ taken_event event.Tick ends.tries ∷ []) ends.went.went
stretches_log_first Passes count before after (Ok Withheld) unwritten ends =
    let then = ends.then.scene in
    last_logged before.scene then after.scene ends.turns ends.event (lines_of (effects_at then.gateway ends.event).denials) ends.went.went
    ends.last.logged.taken.calls ends.last.logged.log
stretches_log_first Passes count before after (Err fault) unwritten ends =
    fault_logged fault unwritten before.scene ends.then.scene after.scene ends.turns ends.event ends.went.went ends.last.last

pub serving_logs_first : ServingLogsFirst
serving_logs_first count before after served serves = led_logged before after serves.turns serves.went

pub stops_log_first : StopsLogFirst
stops_log_first count before after stop stops =
    fault_logged stop.fault stops.unwritten before stops.moment after stops.turns stops.event stops.went stops.last
