-- The lines of what is asked.
use Rattle.std.proofs.Common.{◌≡◌, ◌∙◌, ap, refl, ℕ, List, [], ◌∷◌, ◌++◌, Option, Some, None}
use Rattle.gw_rules.specs.Ask.{Ask}
use Rattle.gw_rules.specs.declared.rule.Rule.{Rule}
use Rattle.gw_rules.specs.Asker.{verdicts_of}
use Rattle.gw_script.specs.Event.{Event}
use Rattle.gw_core.specs.Asked.{asked_at, asked_of}
use Rattle.gw_core.specs.Asks.{asks}
use Rattle.gw_core.specs.Effects.{NeedsNoMemory}
use Rattle.gw_core.specs.Explained.{ask_line, ask_lines, asked_lines, asks_text}
use Rattle.gw_core.specs.Receive.{Origin, origin, receive, source_of}
use Rattle.gw_core.specs.State.{State}
use Rattle.gw_core.specs.internal.Reports.{none_from}

-- the lines of asks with their verdicts are those of the asks
asked_are : (rules : List Rule) (from : Option Origin) (asked : List Ask)
    → asked_lines rules (asked_of from (verdicts_of rules asked)) ≡ ask_lines rules from asked
asked_are rules None asked = refl
asked_are rules (Some from) [] = refl
asked_are rules (Some from) (ask ∷ asked) =
    ap (λ (t : List ℕ). ask_line rules (source_of from ask) ask ++ t) (asked_are rules (Some from) asked)

-- those of all that an event asks are its text
pub asked_text : (w : State) (e : Event) → asked_lines w.rules (asked_at w e) ≡ asks_text w e
unfolding asked_at asks_text
asked_text w e = asked_are w.rules (origin (receive w e)) (asks w e)

-- what needs no memory asks nothing
pub none_asked : (w : State) (e : Event) → NeedsNoMemory w e → asked_at w e ≡ []
unfolding asked_at
none_asked w e none = ap (λ (l : List Ask). asked_of (origin (receive w e)) (verdicts_of w.rules l)) none.0 ∙ none_from (origin (receive w e))
