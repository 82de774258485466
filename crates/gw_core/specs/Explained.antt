-- The text of an event with its asks: a line for each ask, allowed or denied, with the rule that
-- decides it; and after them the lines of what the event does.
use Rattle.std.specs.Prelude.{ℕ, Bool, List, [], ◌∷◌, ◌++◌, Option, Some, None, codes, if◌then◌else◌}
use Rattle.std.specs.Fmt.{decimal}
use Rattle.std.specs.List.{flat_map}
use Rattle.gw_addr.specs.declared.station.Source.{Source}
use Rattle.gw_rules.specs.Ask.{Ask}
use Rattle.gw_rules.specs.Rule.{quiet_mark}
use Rattle.gw_rules.specs.RuleList.{allows, first, is_quiet_by}
use Rattle.gw_rules.specs.declared.rule.Rule.{Rule}
use Rattle.gw_audit.specs.Line.{ask_text}
use Rattle.gw_script.specs.Event.{Event}
use Rattle.gw_core.specs.Asks.{asks}
use Rattle.gw_core.specs.Denials.{name_at}
use Rattle.gw_core.specs.Receive.{Origin, origin, receive, source_of}
use Rattle.gw_core.specs.State.{State}
use Rattle.gw_core.specs.declared.asked.Asked.{Asked}

-- the rule by which the policy decides, its number from 1 and its name; or that none matches
abbrev pub by_text : List Rule → Option ℕ → List ℕ
by_text rules None = codes " default"
by_text rules (Some number) = codes " rule " ++ decimal number ++ codes " " ++ name_at rules number

-- what a policy says, and by which rule: `allow rule <number> <name>`, `deny rule <number> <name>` or
-- `deny default`
abbrev pub judged_text : List Rule → Bool → Option ℕ → List ℕ
judged_text rules is_allowed by = (if is_allowed then codes "allow" else codes "deny") ++ by_text rules by

-- what the policy says of an ask, and by which rule
abbrev pub verdict_text : List Rule → Ask → List ℕ
verdict_text rules ask = judged_text rules (allows rules ask) (first rules ask)

-- the line of one ask: `ask `, what was asked as a line of the log shows it, the verdict, and ` (quiet)` where the rule
-- is quiet, so that the log has no such denial
abbrev pub ask_line : List Rule → Source → Ask → List ℕ
ask_line rules source ask =
    codes "ask " ++ ask_text source ask ++ codes " " ++ verdict_text rules ask
    ++ quiet_mark (is_quiet_by rules (first rules ask)) ++ 10 ∷ []

-- a line for each ask of a datagram that claims to come from there
abbrev pub ask_lines : List Rule → Option Origin → List Ask → List ℕ
ask_lines rules None asks = []
ask_lines rules (Some from) asks = flat_map (λ ask. ask_line rules (source_of from ask) ask) asks

-- the line of an ask with its verdict, and of each of several: those of an event's asks (`asked_at`) are its text
abbrev pub asked_line : List Rule → Asked → List ℕ
asked_line rules a =
    codes "ask " ++ ask_text a.source a.verdict.ask ++ codes " " ++ judged_text rules a.verdict.is_allowed a.verdict.by
    ++ quiet_mark a.verdict.is_quiet ++ 10 ∷ []

abbrev pub asked_lines : List Rule → List Asked → List ℕ
asked_lines rules asked = flat_map (asked_line rules) asked

-- a line for each ask of an event, in their order
unfoldable pub asks_text : State → Event → List ℕ
asks_text w e = ask_lines w.rules (origin (receive w e)) (asks w e)
