-- What a gateway does under two lists of rules that decide alike what it asks.
use Rattle.std.specs.Prelude.{◌≡◌, ℕ, Bool, List, [], ◌∷◌, map}
use Rattle.std.specs.List.{AllByRecursion}
use Rattle.gw_rules.specs.Ask.{Ask}
use Rattle.gw_rules.specs.RuleList.{allows, is_logged}
use Rattle.gw_rules.specs.declared.rule.Rule.{Rule}
use Rattle.gw_audit.specs.declared.denial.Denial.{Denial}
use Rattle.gw_script.specs.Event.{Event}
use Rattle.gw_core.specs.Asks.{asks}
use Rattle.gw_core.specs.Effects.{effects_at, passes_end}
use Rattle.gw_core.specs.History.{next, run_from, state_from}
use Rattle.gw_core.specs.State.{State}
use Rattle.gw_core.specs.declared.effects.Effects.{Effects}

-- two lists of rules allow the same of these asks
abbrev pub DecideAlike : List Rule → List Rule → List Ask → Type 0
DecideAlike rules others asked = AllByRecursion (λ ask. allows rules ask ≡ allows others ask) asked

-- and log the same of them
abbrev pub LogAlike : List Rule → List Rule → List Ask → Type 0
LogAlike rules others asked = AllByRecursion (λ ask. is_logged rules ask ≡ is_logged others ask) asked

-- a gateway in the same state under other rules
abbrev pub under : List Rule → State → State
under rules w = record w { rules = rules }

-- a denial without the name of its rule
abbrev pub nameless : Denial → Denial
nameless denial = record denial { rule = [] }

-- what the names of rules don't change of what an event does
abbrev pub unnamed : Effects → Effects
unnamed given = record given { denials = map nameless given.denials }

-- Two gateways do the same at an event: they ask the same, send the same, deny the same, if perhaps by another rule, and are
-- alike afterwards; and the event passes the end of a count of both or of neither.
pub record DoAlike (w : State) (others : List Rule) (e : Event) : Type 0 where
  pub asks : asks (under others w) e ≡ asks w e
  pub effects : unnamed (effects_at (under others w) e) ≡ unnamed (effects_at w e)
  pub next : next (under others w) e ≡ under others (next w e)
  pub ends : passes_end (under others w) e ≡ passes_end w e

-- If other rules decide and log each ask of an event as those of the gateway, then under them it does the same.
abbrev pub SameDecisionsDoAlike : Type 0
SameDecisionsDoAlike = (w : State) (others : List Rule) (e : Event) →
    DecideAlike w.rules others (asks w e) → LogAlike w.rules others (asks w e) → DoAlike w others e

-- a state with this number of the last denial
abbrev pub counting : ℕ → State → State
counting n w = record w { denials = n }

-- Two gateways send the same at an event: they ask the same, send the same, and are alike afterwards but for the number of
-- the last denial.
pub record SendAlike (w : State) (others : List Rule) (e : Event) : Type 0 where
  pub asks : asks (under others w) e ≡ asks w e
  pub sends : (effects_at (under others w) e).sends ≡ (effects_at w e).sends
  pub next : counting 0 (next (under others w) e) ≡ counting 0 (under others (next w e))

-- If other rules decide each ask of an event as those of the gateway, then under them it sends the same, whatever they log.
abbrev pub SameDecisionsSendAlike : Type 0
SameDecisionsSendAlike = (w : State) (others : List Rule) (e : Event) →
    DecideAlike w.rules others (asks w e) → SendAlike w others e

-- other rules decide as those of the gateway whatever a list of events asks, one after the other
unfoldable pub DecideAlikeAlong : List Rule → State → List Event → Type 0
DecideAlikeAlong others w [] = Unit {0}
DecideAlikeAlong others w (e ∷ l) = DecideAlike w.rules others (asks w e) × DecideAlikeAlong others (next w e) l

-- and log it as those do
unfoldable pub LogAlikeAlong : List Rule → State → List Event → Type 0
LogAlikeAlong others w [] = Unit {0}
LogAlikeAlong others w (e ∷ l) = LogAlike w.rules others (asks w e) × LogAlikeAlong others (next w e) l

-- So whatever comes, one after the other, it does the same, and is alike at the end.
pub record RunAlike (w : State) (others : List Rule) (l : List Event) : Type 0 where
  pub effects : map unnamed (run_from (under others w) l) ≡ map unnamed (run_from w l)
  pub state : state_from (under others w) l ≡ under others (state_from w l)

abbrev pub SameDecisionsRunAlike : Type 0
SameDecisionsRunAlike = (w : State) (others : List Rule) (l : List Event) → DecideAlikeAlong others w l →
    LogAlikeAlong others w l → RunAlike w others l

-- And whatever they log, it sends the same, and is alike at the end but for the number of the last denial.
pub record RunSendAlike (w : State) (others : List Rule) (l : List Event) : Type 0 where
  pub sends : map (λ given. given.sends) (run_from (under others w) l) ≡ map (λ given. given.sends) (run_from w l)
  pub state : counting 0 (state_from (under others w) l) ≡ counting 0 (under others (state_from w l))

abbrev pub SameDecisionsRunSendAlike : Type 0
SameDecisionsRunSendAlike = (w : State) (others : List Rule) (l : List Event) → DecideAlikeAlong others w l → RunSendAlike w others l
