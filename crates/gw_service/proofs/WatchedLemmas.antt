-- A run that is watched is one that isn't, but for what is reported.
use Rattle.std.proofs.Common.{◌≡◌, ℕ, List, [], ◌∷◌, ◌++◌, Bool, true, false, true≢false, refl, sym, ap, inl, ◌∙◌, Option, Some}
use Rattle.std.specs.Prelude.{Result, Ok, Err}
use Rattle.gw_configuration.specs.Configuration.{Configuration}
use Rattle.gw_script.specs.Event.{Event}
use Rattle.gw_script.specs.Event as event
use Rattle.gw_turns.specs.Both.{second_moment}
use Rattle.gw_core.specs.Guard.{LetsAllGo}
use Rattle.gw_turns.specs.Serve.{Turn, taken_event}
use Rattle.gw_core.specs.declared.guard.BothGuards.{BothGuards}
use Rattle.gw_turns.specs.declared.serving.ServeFault.{ServeFault}
use Rattle.gw_turns.proofs.BothLemmas.{second_goes, second_withheld, under_second}
use Rattle.gw_system.specs.Requests.{Asking, Exchange, GoesOn, answered, asked, asked_to_say, asked_to_stop, known, nobody, silent, unasked, untaken}
use Rattle.gw_wire.specs.declared.store.StoreFault.{StoreFault}
use Rattle.gw_watchers.specs.Watching.{HasWatched, Watching}
use Rattle.gw_service.specs.Chain.{AreLinks, IsLink, IsLooked, IsServed, IsStatusIn, IsTicked, Link, Look, Runs, Stage, Standing, chain_text, is_stopping, look_text, stage, standing}
use Rattle.gw_service.specs.Chain.{ended, inquired, passed_over, refused, served, stopping, taken_over, ticked, unrequested, withheld}
use Rattle.gw_core.specs.Resumed.{saved}
use Rattle.gw_service.specs.Reload.{taken_over_line}
use Rattle.gw_service.specs.Start.{counts_of}
use Rattle.gw_service.specs.declared.running.RunEnd.{RunEnd}
use Rattle.gw_service.specs.declared.running.RunEnd.TheVariants as end
use Rattle.gw_core.specs.declared.event.Counts.{Counts}
use Rattle.gw_service.specs.Keeping.{IsKeptFor, IsPassed, failing_in, troubles_in, unkept_in}
use Rattle.gw_service.specs.Kept.{AnswersStop, EndsRun, Given, Rest, reporting_of, rest, stop_text, unkept_of, watched_manner_of}
use Rattle.gw_service.specs.Plain.{manner_of, no_more}
use Rattle.gw_service.specs.Laws.{IsAsUnwatched}
use Rattle.gw_service.specs.Metering.{failing_by, lost_by}
use Rattle.gw_notices.specs.Notices.{metrics_notice, no_troubles, notice_of, of_state, stop_line}
use Rattle.gw_service.specs.Stats.{Reporting, end_stats}
use Rattle.gw_service.specs.Watch.{IsKeptForBeside, more_of}
use Rattle.gw_service.specs.declared.keeping.Kept.{Kept}
use Rattle.gw_notices.specs.declared.troubles.Troubles.{Troubles}

-- what watches lets all go
lets : {T A : Type 0} (trial : T → _) (audit : A → _) → LetsAllGo (HasWatched trial audit)
lets trial audit g h w event p = absurd (true≢false (sym p.0))

-- ---- without what watches

-- What is known of requests, or no more than whether somebody asks: a request to say what is counted is answered otherwise then, so
-- after a tick what was answered isn't said any more.
abbrev hushed : Bool → Asking → Asking
hushed false q = q
hushed true nobody = nobody
hushed true silent = silent
hushed true (known exchanges) = silent

-- what is known goes on by the same, or by another answer
goes_hushed : (quiet : Bool) (a b : Asking) (exchanges : List Exchange) → GoesOn a b exchanges
    → GoesOn (hushed quiet a) (hushed true b) exchanges
goes_hushed false nobody b exchanges goes = (ap (hushed true) goes.0, goes.1)
goes_hushed false silent b exchanges goes = ap (hushed true) goes
goes_hushed false (known recorded) nobody exchanges goes = absurd goes
goes_hushed false (known recorded) silent exchanges goes = tt
goes_hushed false (known recorded) (known now) exchanges goes = tt
goes_hushed true nobody b exchanges goes = (ap (hushed true) goes.0, goes.1)
goes_hushed true silent b exchanges goes = ap (hushed true) goes
goes_hushed true (known recorded) nobody exchanges goes = absurd goes
goes_hushed true (known recorded) silent exchanges goes = refl
goes_hushed true (known recorded) (known now) exchanges goes = refl

says_hushed : (quiet : Bool) (a b : Asking) (answer other : List ℕ) → GoesOn a b (asked_to_say ∷ answered answer ∷ [])
    → GoesOn (hushed quiet a) (hushed true b) (asked_to_say ∷ answered other ∷ [])
says_hushed quiet nobody b answer other goes = absurd goes.1.0
says_hushed false silent b answer other goes = ap (hushed true) goes
says_hushed false (known recorded) nobody answer other goes = absurd goes
says_hushed false (known recorded) silent answer other goes = tt
says_hushed false (known recorded) (known now) answer other goes = tt
says_hushed true silent b answer other goes = ap (hushed true) goes
says_hushed true (known recorded) nobody answer other goes = absurd goes
says_hushed true (known recorded) silent answer other goes = refl
says_hushed true (known recorded) (known now) answer other goes = refl

abbrev unwatched : {S L : Type 0} → (quiet : Bool) → Stage (BothGuards (Watching L L) (Kept S)) → Stage (Kept S)
unwatched quiet s =
    stage s.config (second_moment s.now) (hushed quiet s.requests) s.counts s.announcing (of_state s.said.state) s.metrics

abbrev standing_of : {S L : Type 0} → (quiet : Bool) → Standing (BothGuards (Watching L L) (Kept S)) → Standing (Kept S)
standing_of quiet s = standing s.gateway s.keeper.second (hushed quiet s.requests) s.counts s.announcing

-- what comes of a look then: a request to say what is counted is answered by this report
abbrev other_look : (report : List ℕ) → Look → Look
other_look report unrequested = unrequested
other_look report passed_over = passed_over
other_look report stopping = stopping
other_look report (inquired answer) = inquired report
other_look report (refused read fault line) = refused read fault line
other_look report (taken_over text new) = taken_over text new

stops_too : (report : List ℕ) (look : Look) → is_stopping look ≡ is_stopping (other_look report look)
stops_too report unrequested = refl
stops_too report passed_over = refl
stops_too report stopping = refl
stops_too report (inquired answer) = refl
stops_too report (refused read fault line) = refl
stops_too report (taken_over text new) = refl

says_it : (report : List ℕ) (look : Look) → IsStatusIn report (other_look report look)
says_it report unrequested = tt
says_it report passed_over = tt
says_it report stopping = tt
says_it report (inquired answer) = inl refl
says_it report (refused read fault line) = tt
says_it report (taken_over text new) = tt

looked : {S L : Type 0} (held : S → _) (quiet : Bool) (report : List ℕ) (c d : Configuration) (s t : Standing (BothGuards (Watching L L) (Kept S)))
    (look : Look) → IsLooked (IsKeptForBeside held) c s look d t
    → IsLooked (IsKeptFor held) c (standing_of quiet s) (other_look report look) d (standing_of true t)
looked held quiet report c d s t unrequested is = record {
  stays = record {
    config = is.stays.config;
    gateway = is.stays.gateway;
    keeper = ap (λ (k : BothGuards _ _). k.second) is.stays.keeper;
    announcing = is.stays.announcing;
  };
  requests = goes_hushed quiet s.requests t.requests (unasked ∷ []) is.requests;
  counts = is.counts;
}
looked held quiet report c d s t passed_over is = record {
  stays = record {
    config = is.stays.config;
    gateway = is.stays.gateway;
    keeper = ap (λ (k : BothGuards _ _). k.second) is.stays.keeper;
    announcing = is.stays.announcing;
  };
  requests = goes_hushed quiet s.requests t.requests (untaken ∷ []) is.requests;
  counts = is.counts;
}
looked held quiet report c d s t stopping is = record {
  stays = record {
    config = is.stays.config;
    gateway = is.stays.gateway;
    keeper = ap (λ (k : BothGuards _ _). k.second) is.stays.keeper;
    announcing = is.stays.announcing;
  };
  requests = goes_hushed quiet s.requests t.requests (asked_to_stop ∷ []) is.requests;
  counts = is.counts;
}
looked held quiet report c d s t (inquired answer) is = record {
  stays = record {
    config = is.stays.config;
    gateway = is.stays.gateway;
    keeper = ap (λ (k : BothGuards _ _). k.second) is.stays.keeper;
    announcing = is.stays.announcing;
  };
  requests = says_hushed quiet s.requests t.requests answer report is.requests;
  counts = is.counts;
}
looked held quiet report c d s t (refused read fault line) is = record {
  why = is.why;
  says = is.says;
  stays = record {
    config = is.stays.config;
    gateway = is.stays.gateway;
    keeper = ap (λ (k : BothGuards _ _). k.second) is.stays.keeper;
    announcing = is.stays.announcing;
  };
  requests = goes_hushed quiet s.requests t.requests (asked read ∷ answered line ∷ []) is.requests;
  counts = is.counts;
}
looked held quiet report c d s t (taken_over text new) is = record {
  config = is.config;
  reads = is.reads;
  ports = is.ports;
  gateway = is.gateway;
  keeper = is.keeper.0;
  requests = goes_hushed quiet s.requests t.requests (asked (Ok (Some text)) ∷ answered (taken_over_line s.gateway new (saved c s.gateway)) ∷ []) is.requests;
  counts = is.counts;
  announcing = is.announcing;
}

-- ---- a link

-- after a tick, whether the gateway is to stop or not
ticks : {S L : Type 0} (held : S → _) (log_held : L → _) (how : Reporting) (stops quiet : Bool)
    (s t : Stage (BothGuards (Watching L L) (Kept S))) (turns : List Turn) (look : Look) (text : List ℕ)
    → IsTicked (watched_manner_of held log_held how) stops s turns look text t
    → (report other : List ℕ) × IsTicked (manner_of held how) stops (unwatched quiet s) turns (other_look report look) other (unwatched true t)
ticks held log_held how stops quiet s t turns look text is =
    let then = second_moment is.then in
    let manner = manner_of held how in
    let report = manner.status t.now.guard.second t.counts is.due (lost_by s.metrics) t.now.scene.gateway t.now.served t.now.tally in
    let other = ((look_text s.config (standing then.scene.gateway then.guard (hushed quiet s.requests) s.counts s.announcing)
    (other_look report look)
    ++ notice_of (of_state s.said.state) (of_state t.said.state))
    ++ manner.report t.now.guard.second t.counts t.announcing (lost_by s.metrics) t.now.scene.gateway t.now.served t.now.tally)
    ++ metrics_notice (failing_by s.metrics) (failing_by t.metrics) in (
      report,
      other,
      record {
        is = is.is ∙ stops_too report look;
        before = is.before;
        tries = is.tries;
        tick = is.tick;
        then = then;
        went = second_goes (HasWatched log_held log_held) (IsPassed held) s.now is.then turns is.went;
        ticks = is.ticks;
        due = is.due;
        done = record {
          keeper = is.done.keeper.second;
          ticks = is.done.ticks.0;
          looked = looked held quiet report s.config t.config _ _ look is.done.looked;
        };
        status = says_it report look;
        announced = is.announced;
        rest = record { log = is.rest.log; served = is.rest.served; tally = is.rest.tally };
        said = ap (λ (x : Troubles). of_state x.state) is.said;
        metrics = is.metrics;
        lines = refl;
      },
    )

-- turns that were served
serves : {S L : Type 0} (held : S → _) (log_held : L → _) (how : Reporting) (quiet : Bool) (s t : Stage (BothGuards (Watching L L) (Kept S)))
    (turns : List Turn) → IsServed (watched_manner_of held log_held how) s turns t
    → IsServed (manner_of held how) (unwatched quiet s) turns (unwatched quiet t)
serves held log_held how quiet s t turns is = record {
  went = second_goes (HasWatched log_held log_held) (IsPassed held) s.now t.now turns is.went;
  config = is.config;
  requests = ap (hushed quiet) is.requests;
  counts = is.counts;
  announcing = is.announcing;
  metrics = is.metrics;
  said = ap (λ (x : Troubles). of_state x.state) is.said;
}

linked : {S L : Type 0} (held : S → _) (log_held : L → _) (how : Reporting) (quiet : Bool) (s t : Stage (BothGuards (Watching L L) (Kept S)))
    (link : Link) → IsLink (watched_manner_of held log_held how) s link t
    → (other : Link) × (later : Bool) × IsLink (manner_of held how) (unwatched quiet s) other (unwatched later t)
linked held log_held how quiet s t (served turns) is = (served turns, quiet, serves held log_held how quiet s t turns is)
linked held log_held how quiet s t (ticked turns look text) is =
    let other = ticks held log_held how false quiet s t turns look text is in (ticked turns (other_look other.0 look) other.1, true, other.2)
linked held log_held how quiet s t (withheld turns event text) is = (
  withheld turns event (notice_of (of_state s.said.state) (of_state t.said.state)),
  quiet,
  record {
    then = second_moment is.then;
    went = second_goes (HasWatched log_held log_held) (IsPassed held) s.now is.then turns is.went;
    last = record {
      logged = is.last.logged;
      passes = second_withheld (HasWatched log_held log_held) (IsPassed held) (lets log_held log_held) is.then.guard t.now.guard
          is.then.scene.gateway event is.last.passes;
      counts = is.last.counts;
      tally = is.last.tally;
    };
    config = is.config;
    requests = ap (hushed quiet) is.requests;
    counts = is.counts;
    announcing = is.announcing;
    metrics = is.metrics;
    said = ap (λ (x : Troubles). of_state x.state) is.said;
    lines = refl;
  },
)
linked held log_held how quiet s t (ended turns text) is = absurd is

chained : {S L : Type 0} (held : S → _) (log_held : L → _) (how : Reporting) (quiet : Bool) (s t : Stage (BothGuards (Watching L L) (Kept S)))
    (links : List Link) → AreLinks (watched_manner_of held log_held how) s links t
    → (others : List Link) × (later : Bool) × AreLinks (manner_of held how) (unwatched quiet s) others (unwatched later t)
unfolding AreLinks
chained held log_held how quiet s t [] chain = ([], quiet, ap (unwatched quiet) chain)
chained held log_held how quiet s t (link ∷ links) chain =
    let first = linked held log_held how quiet s chain.0 link chain.1 in
    let later = chained held log_held how first.1 chain.0 t links chain.2 in
    (first.0 ∷ later.0, later.1, (unwatched first.1 chain.0, first.2, later.2))

-- ---- a run

ran : {S L : Type 0} (held : S → _) (log_held : L → _) (how : Reporting) (count : ℕ) (s t : Stage (BothGuards (Watching L L) (Kept S)))
    (answer : Result RunEnd ServeFault) (links : List Link) → Runs (watched_manner_of held log_held how) count s answer links t
    → (others : List Link) × (later : Bool) × Runs (manner_of held how) count (unwatched false s) answer others (unwatched later t)
ran held log_held how count s t (Ok end.Turns) links runs =
    let chain = chained held log_held how false s t links runs.chain in (chain.0, chain.1, record { chain = chain.2; turns = runs.turns })
ran held log_held how count s t (Ok end.Stopped) links runs =
    let chain = chained held log_held how false s runs.then runs.before runs.chain in
    let last = ticks held log_held how true chain.1 runs.then t runs.turns stopping runs.text runs.stops in (
      chain.0 ++ ended runs.turns last.1 ∷ [],
      true,
      record {
        then = unwatched chain.1 runs.then;
        before = chain.0;
        chain = chain.2;
        turns = runs.turns;
        text = last.1;
        stops = last.2;
        is = refl;
      },
    )
ran held log_held how count s t (Ok end.Unsynced) links runs =
    let chain = chained held log_held how false s runs.then runs.before runs.chain in
    let turns = runs.turns ++ taken_event event.Tick runs.tries ∷ [] in (
      chain.0 ++ served turns ∷ [],
      chain.1,
      record {
        then = unwatched chain.1 runs.then;
        before = chain.0;
        chain = chain.2;
        turns = runs.turns;
        tries = runs.tries;
        goes = serves held log_held how chain.1 runs.then t turns runs.goes;
        is = refl;
        most = runs.most;
      },
    )
ran held log_held how count s t (Err fault) links runs =
    let chain = chained held log_held how false s runs.then links runs.chain in (
      chain.0,
      chain.1,
      record {
        then = unwatched chain.1 runs.then;
        chain = chain.2;
        left = runs.left;
        most = runs.most;
        unwritten = runs.unwritten;
        ends = record {
          ends = under_second (HasWatched log_held log_held) (IsPassed held) (lets log_held log_held) runs.left runs.then.now t.now (Err fault)
              runs.unwritten runs.ends.ends;
          config = runs.ends.config;
          requests = ap (hushed chain.1) runs.ends.requests;
          counts = runs.ends.counts;
          announcing = runs.ends.announcing;
          metrics = runs.ends.metrics;
          said = ap (λ (x : Troubles). of_state x.state) runs.ends.said;
        };
      },
    )

-- what is known of requests at the end
abbrev left_of : Result RunEnd ServeFault → (quiet : Bool) → Asking → Asking
left_of (Ok end.Turns) quiet q = hushed quiet q
left_of (Ok end.Stopped) quiet q = hushed true q
left_of (Ok end.Unsynced) quiet q = hushed quiet q
left_of (Err fault) quiet q = hushed quiet q

answers_hushed : (answer : Result RunEnd ServeFault) (failing : Option StoreFault) (quiet : Bool) (before after : Asking)
    → AnswersStop answer failing before after → AnswersStop answer failing (hushed quiet before) (left_of answer quiet after)
answers_hushed (Ok end.Turns) failing quiet before after is = ap (hushed quiet) is
answers_hushed (Ok end.Stopped) failing quiet before after is = goes_hushed quiet before after (answered (stop_line failing) ∷ []) is
answers_hushed (Ok end.Unsynced) failing quiet before after is = ap (hushed quiet) is
answers_hushed (Err fault) failing quiet before after is = ap (hushed quiet) is

-- what is done at the end
ends : {S L : Type 0} (held : S → _) (log_held : L → _) (how : Reporting) (quiet : Bool) (start : Counts) (answer : Result RunEnd ServeFault)
    (last : Stage (BothGuards (Watching L L) (Kept S))) (left : Rest (BothGuards (Watching L L) (Kept S))) (text : List ℕ)
    → EndsRun (watched_manner_of held log_held how) (end_stats unkept_of more_of how) start answer last left text
    → (other : List ℕ) × EndsRun (manner_of held how) (end_stats unkept_in no_more how) start answer (unwatched quiet last)
    (rest left.keeper.second (left_of answer quiet left.requests)) other
ends held log_held how quiet start answer last left text is = (
  end_stats unkept_in no_more how left.keeper.second last.counts last.announcing (lost_by is.metrics) last.now.scene.gateway last.now.served
      last.now.tally ++ stop_text answer (failing_in left.keeper.second),
  record { keeps = is.keeps.0; metrics = is.metrics; put = is.put; answers = answers_hushed answer (failing_in left.keeper.second) quiet last.requests left.requests is.answers; said = refl },
)

pub as_unwatched : {S Q L : Type 0} (given : Given S Q L) → IsAsUnwatched given
as_unwatched given c how before after text outcome runs =
    let reports = reporting_of given how runs.gateway in
    let last = runs.runs.last in
    let other = ran given.held given.log_held reports how.turns _ last runs.answer runs.runs.links runs.runs.runs in
    let final = ends given.held given.log_held reports other.1 (counts_of runs.gateway) runs.answer last runs.left runs.runs.end_text runs.runs.ends in (
      (notice_of no_troubles (troubles_in runs.keeper.second) ++ chain_text other.0) ++ final.0,
      record {
        gateway = runs.gateway;
        begins = runs.begins;
        keeper = runs.keeper.second;
        keeps = runs.keeps;
        answer = runs.answer;
        left = rest runs.left.keeper.second (left_of runs.answer other.1 runs.left.requests);
        runs = record {
          begun = unwatched false runs.runs.begun;
          begins = record { announced = runs.runs.begins.announced; is = ap (unwatched false) runs.runs.begins.is };
          links = other.0;
          last = unwatched other.1 last;
          runs = other.2;
          log = runs.runs.log;
          calls = runs.runs.calls;
          end_text = final.0;
          ends = final.1;
          said = refl;
        };
        answers = runs.answers;
      },
    )
