-- What an event asks, with what the policy says of each ask.
use Rattle.std.specs.Prelude.{List, [], ◌∷◌, ◌++◌, Option, Some, None, filter, map, not, ◌&&◌}
use Rattle.gw_rules.specs.Asker.{verdicts_of}
use Rattle.gw_rules.specs.declared.refusal.Refusal.{Refusal}
use Rattle.gw_rules.specs.declared.verdict.Verdict.{Verdict}
use Rattle.gw_script.specs.Event.{Event}
use Rattle.gw_core.specs.Asks.{asks}
use Rattle.gw_core.specs.History.{next}
use Rattle.gw_core.specs.Receive.{Origin, origin, receive, source_of}
use Rattle.gw_core.specs.State.{State}
use Rattle.gw_core.specs.declared.asked.Asked.{Asked}

-- a verdict on an ask that came from there
abbrev pub asked_from : Origin → Verdict → Asked
asked_from from v = record { port = from.port; source = source_of from v.ask; verdict = v }

-- the verdicts on the asks that came from there
abbrev pub asked_of : Option Origin → List Verdict → List Asked
asked_of None verdicts = []
asked_of (Some from) verdicts = map (asked_from from) verdicts

-- what an event asks in this state, in order, with the verdicts of the state's rules
unfoldable pub asked_at : State → Event → List Asked
asked_at w e = asked_of (origin (receive w e)) (verdicts_of w.rules (asks w e))

-- what these events ask, one after the other
unfoldable pub run_asked : State → List Event → List Asked
run_asked w [] = []
run_asked w (e ∷ events) = asked_at w e ++ run_asked (next w e) events

-- a verdict that denies, as a refusal
abbrev pub refused : Verdict → Refusal
refused v = record { ask = v.ask; by = v.by }

-- the refusals among verdicts: those that deny, but by quiet rules
abbrev pub refused_of : List Verdict → List Refusal
refused_of verdicts = map refused (filter (λ v. not v.is_allowed && not v.is_quiet) verdicts)
