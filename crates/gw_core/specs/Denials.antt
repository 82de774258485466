-- What the policy denies of what an event asks, but by quiet rules, and the record of it.
use Rattle.std.specs.Prelude.{ℕ, ◌+◌, ◌-◌, ◌==◌, List, [], ◌∷◌, Option, Some, None, codes, slice_get, if◌then◌else◌}
use Rattle.std.specs.Option.{option_map_or}
use Rattle.gw_rules.specs.Authorizer.{denied_of}
use Rattle.gw_rules.specs.declared.refusal.Refusal.{Refusal}
use Rattle.gw_rules.specs.declared.rule.Rule.{Rule}
use Rattle.gw_audit.specs.declared.denial.Denial.{Denial}
use Rattle.gw_script.specs.Event.{Event}
use Rattle.gw_core.specs.Asks.{asks_for}
use Rattle.gw_core.specs.Receive.{Origin, Received, origin, receive, source_of}
use Rattle.gw_core.specs.State.{State}

-- the name under which an ask is denied where no rule matches it
abbrev pub default_name : List ℕ
default_name = codes "default"

-- the name of the rule of a number, which is counted from 1
abbrev pub name_at : List Rule → ℕ → List ℕ
name_at rules number =
    if number == 0 then default_name
    else option_map_or (λ rule. rule.name) (slice_get rules (number - 1)) default_name

-- the name of the rule that decided an ask, or `default`
abbrev pub rule_name : List Rule → Option ℕ → List ℕ
rule_name rules by = option_map_or (name_at rules) by default_name

-- the record of refusals, counted on from a number
abbrev pub denials_from : List Rule → ℕ → ℕ → Origin → List Refusal → List Denial
denials_from rules number tick from [] = []
denials_from rules number tick from (refusal ∷ refusals) = record {
  number = number;
  tick = tick;
  port = from.port;
  source = source_of from refusal.ask;
  ask = refusal.ask;
  rule = rule_name rules refusal.by;
} ∷ denials_from rules (number + 1) tick from refusals

-- the record of refusals that came from there, counted on from a number
abbrev pub denials_of : List Rule → ℕ → ℕ → Option Origin → List Refusal → List Denial
denials_of rules number tick None refusals = []
denials_of rules number tick (Some from) refusals = denials_from rules number tick from refusals

-- what is denied of what is received in this state, but by quiet rules
abbrev pub denials_for : State → Received → List Denial
denials_for w received =
    denials_of w.rules (w.denials + 1) w.ticks (origin received)
    (denied_of w.rules (asks_for w.rules w.relay w.device received))

-- The denials of an event, but those of quiet rules: the first is numbered one more than the last before, and each has the ticks
-- so far.
unfoldable pub denials_at : State → Event → List Denial
denials_at w e = denials_for w (receive w e)
