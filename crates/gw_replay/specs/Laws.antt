-- Laws of what a replay writes.
use Rattle.std.specs.Prelude.{◌≡◌, ℕ, false, List, filter}
use Rattle.std.specs.List.{flat_map}
use Rattle.gw_configuration.specs.Configuration.{Configuration}
use Rattle.gw_rules.specs.RuleList.{is_logged}
use Rattle.gw_script.specs.Event.{Event}
use Rattle.gw_core.specs.Asks.{asks}
use Rattle.gw_core.specs.Effects.{effects_at}
use Rattle.gw_core.specs.Explained.{ask_line, ask_lines}
use Rattle.gw_core.specs.History.{no_counts, run}
use Rattle.gw_core.specs.Receive.{origin, receive}
use Rattle.gw_core.specs.State.{State}
use Rattle.gw_replay.specs.Entry.{AreEntries, ScriptEntry, entries_of, events_among}
use Rattle.gw_replay.specs.Replay.{played, run_text}
use Rattle.gw_script.specs.Script.{AreLines}
use Rattle.gw_replay.specs.Shown.{event_text, text_of_run}

-- What a replay that doesn't explain writes of a run is the text of its effects.
abbrev pub RunsAreWritten : Type 0
RunsAreWritten = (c : Configuration) (l : List Event) → run_text event_text c (entries_of l) ≡ text_of_run (run c no_counts l)

-- The lines of a script write events alone if the configuration doesn't announce: as many as there are lines, and a line writes
-- nothing exactly if it writes no event.
abbrev pub UnannouncedAreEvents : Type 0
UnannouncedAreEvents =
    (ports : ℕ) (lines : List (List ℕ)) (entries : List ScriptEntry) → AreEntries false ports lines entries
    → AreLines ports lines (events_among entries) × (entries ≡ entries_of (events_among entries))

-- An announcement leaves the gateway as it is: what comes after it is done as if it weren't there.
abbrev pub AnnouncementsChangeNothing : Type 0
AnnouncementsChangeNothing =
    (c : Configuration) (entries : List ScriptEntry) → played c entries ≡ played c (entries_of (events_among entries))

-- The lines of those asks of an event that the policy denies, but by quiet rules, are those of its denials, in order.
abbrev pub DeniedLinesAreLogged : Type 0
DeniedLinesAreLogged = (w : State) (e : Event) →
    ask_lines w.rules (origin (receive w e)) (filter (is_logged w.rules) (asks w e))
    ≡ flat_map (λ d. ask_line w.rules d.source d.ask) (effects_at w e).denials
