-- What quiet rules change: they leave lines out of the log, and change nothing else.
use Rattle.std.specs.Prelude.{◌≡◌, ℕ, ◌+◌, Bool, true, false, not, List, [], ◌∷◌, filter, length, map}
use Rattle.gw_rules.specs.Ask.{Ask}
use Rattle.gw_rules.specs.Authorizer.{refusal}
use Rattle.gw_rules.specs.RuleList.{allows, first, has_no_quiet, is_quiet_by, without_quiet}
use Rattle.gw_rules.specs.declared.refusal.Refusal.{Refusal}
use Rattle.gw_rules.specs.declared.rule.Rule.{Rule}
use Rattle.gw_audit.specs.declared.denial.Denial.{Denial}
use Rattle.gw_script.specs.Event.{Event}
use Rattle.gw_core.specs.Asks.{asks}
use Rattle.gw_core.specs.Denials.{denials_of}
use Rattle.gw_core.specs.Effects.{effects_at}
use Rattle.gw_core.specs.History.{log, next, run_from, state_from}
use Rattle.gw_core.specs.Receive.{origin, receive}
use Rattle.gw_core.specs.State.{State}
use Rattle.gw_core.specs.declared.effects.Effects.{Effects}
use Rattle.gw_core_laws.specs.Decisions.{counting, under}

-- ---- without a quiet rule

-- what was logged before a rule could be quiet: all that the policy denies
abbrev pub denied_before : List Rule → List Ask → List Refusal
denied_before rules asked = map (refusal rules) (filter (λ ask. not (allows rules ask)) asked)

-- what an event did then
abbrev pub effects_before : State → Event → Effects
effects_before w e = record {
  sends = (effects_at w e).sends;
  denials = denials_of w.rules (w.denials + 1) w.ticks (origin (receive w e)) (denied_before w.rules (asks w e));
}

-- and the state that it left
abbrev pub next_before : State → Event → State
next_before w e = record (next w e) { denials = w.denials + length (effects_before w e).denials }

-- a list of events, one after the other
unfoldable pub run_before : State → List Event → List Effects
run_before w [] = []
run_before w (e ∷ l) = effects_before w e ∷ run_before (next_before w e) l

unfoldable pub left_before : State → List Event → State
left_before w [] = w
left_before w (e ∷ l) = left_before (next_before w e) l

-- Where no rule is quiet, an event does what it did before, and so does each list of events.
abbrev pub NoQuietIsAsBefore : Type 0
NoQuietIsAsBefore = (w : State) (e : Event) → has_no_quiet w.rules ≡ true →
    (effects_at w e ≡ effects_before w e) × (next w e ≡ next_before w e)

abbrev pub NoQuietRunsAsBefore : Type 0
NoQuietRunsAsBefore = (w : State) (l : List Event) → has_no_quiet w.rules ≡ true →
    (run_from w l ≡ run_before w l) × (state_from w l ≡ left_before w l)

-- ---- with quiet rules

-- a denial by a rule that isn't quiet, or by none
abbrev pub is_loud : List Rule → Denial → Bool
is_loud rules denial = not (is_quiet_by rules (first rules denial.ask))

-- denials with their numbers counted on from one
abbrev pub numbered_on : ℕ → List Denial → List Denial
numbered_on number [] = []
numbered_on number (denial ∷ denials) = record denial { number = number } ∷ numbered_on (number + 1) denials

-- An event does what it does under the same rules without the word: it asks the same, sends the same, and leaves the same
-- state but for the number of the last denial. Its denials are those without the ones by quiet rules, numbered on.
pub record OnlyLogsLess (w : State) (e : Event) : Type 0 where
  pub asks : asks w e ≡ asks (under (without_quiet w.rules) w) e
  pub sends : (effects_at w e).sends ≡ (effects_at (under (without_quiet w.rules) w) e).sends
  pub denials : (effects_at w e).denials
      ≡ numbered_on (w.denials + 1) (filter (is_loud w.rules) (effects_at (under (without_quiet w.rules) w) e).denials)
  pub next : counting 0 (under (without_quiet w.rules) (next w e)) ≡ counting 0 (next (under (without_quiet w.rules) w) e)

abbrev pub QuietRulesLogLess : Type 0
QuietRulesLogLess = (w : State) (e : Event) → OnlyLogsLess w e

-- So does each list of events, one after the other; and the log is that without the denials by quiet rules, numbered on.
pub record RunOnlyLogsLess (w : State) (l : List Event) : Type 0 where
  pub sends : map (λ given. given.sends) (run_from w l) ≡ map (λ given. given.sends) (run_from (under (without_quiet w.rules) w) l)
  pub log : log (run_from w l)
      ≡ numbered_on (w.denials + 1) (filter (is_loud w.rules) (log (run_from (under (without_quiet w.rules) w) l)))
  pub state : counting 0 (under (without_quiet w.rules) (state_from w l)) ≡ counting 0 (state_from (under (without_quiet w.rules) w) l)

abbrev pub QuietRulesRunLogLess : Type 0
QuietRulesRunLogLess = (w : State) (l : List Event) → RunOnlyLogsLess w l
