-- What a watcher's logs hold after a run, and what the lines of a trial are.
use Rattle.std.specs.Prelude.{◌≡◌, ℕ, ◌+◌, ◌^◌, ◌<◌, true, false, filter, List, [], ◌∷◌, ◌++◌, length, map, Option}
use Rattle.std.specs.List.{AllByRecursion}
use Rattle.gw_audit.specs.declared.denial.Denial.{Denial}
use Rattle.gw_core.specs.Asked.{asked_at, run_asked}
use Rattle.gw_core.specs.Asks.{asks}
use Rattle.gw_core.specs.Denials.{denials_of, rule_name}
use Rattle.gw_core.specs.History.{next}
use Rattle.gw_core.specs.Receive.{origin, receive}
use Rattle.gw_core.specs.State.{State}
use Rattle.gw_core.specs.declared.asked.Asked.{Asked}
use Rattle.gw_rules.specs.Authorizer.{denied_of}
use Rattle.gw_rules.specs.RuleList.{allows, first}
use Rattle.gw_rules.specs.declared.rule.Rule.{Rule}
use Rattle.gw_script.specs.Event.{Event}
use Rattle.gw_watchers.specs.Records.{Line, last_number, records, trial_front, tried_by, unlike, verdicts_text}
use Rattle.gw_watchers.specs.declared.trial.Trial.{Trial}

-- ---- one event

-- a denial with nothing in front
abbrev pub bare : Denial → Line
bare denial = record { front = []; denial = denial }

-- What a trial records of an event, if all that is denied is wanted, is what a log of denials by the trial's rules has of it: of
-- each ask that they deny, but by quiet rules, in order, and nothing in front.
abbrev pub TrialIsDenials : Type 0
TrialIsDenials = (trial : Trial) (w : State) (e : Event) (last tick : ℕ) → trial.has_all_denied ≡ true
    → last + length (asks w e) < 2 ^ 64
    → records (tried_by trial) (trial_front trial w.rules) trial.policy last tick (asked_at w e)
    ≡ map bare (denials_of trial.policy (last + 1) tick (origin (receive w e)) (denied_of trial.policy (asks w e)))

-- Else it records exactly the asks that the rules in force and those on trial decide otherwise, in order.
abbrev pub TrialIsDifferences : Type 0
TrialIsDifferences = (trial : Trial) (w : State) (e : Event) (last tick : ℕ) → trial.has_all_denied ≡ false
    → map (λ line. line.denial.ask) (records (tried_by trial) (trial_front trial w.rules) trial.policy last tick (asked_at w e))
    ≡ filter (λ ask. unlike (allows w.rules ask) (allows trial.policy ask)) (asks w e)

-- Of such an ask the line says in front what the rules in force decide and by which rule, and behind that by which of those on
-- trial it is decided; all by the definitions of both policies alone.
abbrev pub DifferencesAreSaid : Type 0
DifferencesAreSaid = (trial : Trial) (w : State) (e : Event) (last tick : ℕ) → trial.has_all_denied ≡ false
    → AllByRecursion (λ line.
    (line.front ≡ verdicts_text (allows w.rules line.denial.ask) (rule_name w.rules (first w.rules line.denial.ask)))
    × (line.denial.rule ≡ rule_name trial.policy (first trial.policy line.denial.ask)))
    (records (tried_by trial) (trial_front trial w.rules) trial.policy last tick (asked_at w e))

-- each ask of an event is asked about once, in order
abbrev pub AllAreAsked : Type 0
AllAreAsked = (w : State) (e : Event) → map (λ a. a.verdict.ask) (asked_at w e) ≡ asks w e

-- ---- a run

-- what is recorded of these events, one after the other
unfoldable pub run_records : (Asked → Option (Option ℕ)) → (List Rule → Asked → List ℕ) → (List Rule → List Rule) → ℕ → State
    → List Event → List Line
run_records chosen front naming last w [] = []
run_records chosen front naming last w (e ∷ events) =
    let now = records chosen (front (next w e).rules) (naming (next w e).rules) last (next w e).ticks (asked_at w e) in
    now ++ run_records chosen front naming (last_number last now) (next w e) events
