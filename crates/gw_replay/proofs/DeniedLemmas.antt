-- The lines of the asks that are denied.
use Rattle.std.proofs.Common.{◌≡◌, ◌∙◌, sym, ap, refl, ℕ, ◌+◌, List, [], ◌∷◌, ◌++◌, filter, map, Option, Some, None}
use Rattle.std.specs.List.{flat_map}
use Rattle.gw_rules.specs.Ask.{Ask}
use Rattle.gw_rules.specs.Authorizer.{denied_of}
use Rattle.gw_rules.specs.RuleList.{is_logged}
use Rattle.gw_rules.specs.declared.refusal.Refusal.{Refusal}
use Rattle.gw_rules.specs.declared.rule.Rule.{Rule}
use Rattle.gw_rules.proofs.Denials.{refused_asks}
use Rattle.gw_core.specs.Asks.{asks, asks_for}
use Rattle.gw_core.specs.Denials.{denials_from, denials_of}
use Rattle.gw_core.specs.Effects.{effects_at}
use Rattle.gw_core.specs.Explained.{ask_line, ask_lines}
use Rattle.gw_replay.specs.Laws.{DeniedLinesAreLogged}
use Rattle.gw_core.specs.Receive.{Origin, origin, receive, source_of}

lines_from : (rules : List Rule) (number tick : ℕ) (from : Origin) (refusals : List Refusal)
    → flat_map (λ d. ask_line rules d.source d.ask) (denials_from rules number tick from refusals)
    ≡ flat_map (λ ask. ask_line rules (source_of from ask) ask) (map (λ r. r.ask) refusals)
lines_from rules number tick from [] = refl
lines_from rules number tick from (r ∷ refusals) =
    ap (λ (t : List ℕ). ask_line rules (source_of from r.ask) r.ask ++ t) (lines_from rules (number + 1) tick from refusals)

lines_of : (rules : List Rule) (number tick : ℕ) (from : Option Origin) (asked : List Ask)
    → ask_lines rules from (filter (is_logged rules) asked)
    ≡ flat_map (λ d. ask_line rules d.source d.ask) (denials_of rules number tick from (denied_of rules asked))
lines_of rules number tick None asked = refl
lines_of rules number tick (Some from) asked =
    sym (lines_from rules number tick from (denied_of rules asked) ∙ ap (flat_map (λ ask. ask_line rules (source_of from ask) ask)) (refused_asks rules asked))

pub denied_lines_are_logged : DeniedLinesAreLogged
unfolding effects_at asks
denied_lines_are_logged w e =
    lines_of w.rules (w.denials + 1) w.ticks (origin (receive w e)) (asks_for w.rules w.relay w.device (receive w e))
