-- What a trial records of an event, and that each ask is recorded once.
use Rattle.std.proofs.Common.{◌≡◌, ◌∙◌, refl, sym, ap, subst, ℕ, ◌+◌, ◌^◌, ◌<◌, suc, Bool, true, false, List, [], ◌∷◌, ◌++◌, length, map, Option, Some, None, arith}
use Rattle.std.specs.Prelude.{cond, filter, if◌then◌else◌}
use Rattle.std.specs.List.{AllByRecursion}
use Rattle.gw_core.specs.Asked.{asked_at, asked_from, asked_of}
use Rattle.gw_core.specs.Asks.{asks, asks_for}
use Rattle.gw_core.specs.Denials.{denials_from, denials_of, rule_name}
use Rattle.gw_core.specs.Receive.{Origin, Received, barred, dropped, managed, unregistered, message, origin, receive}
use Rattle.gw_core.specs.State.{State}
use Rattle.gw_core.specs.declared.asked.Asked.{Asked}
use Rattle.gw_rules.specs.Ask.{Ask}
use Rattle.gw_rules.specs.Asker.{verdict, verdicts_of}
use Rattle.gw_rules.specs.Authorizer.{denied_of, refusal}
use Rattle.gw_rules.specs.RuleList.{allows, first, is_logged}
use Rattle.gw_rules.specs.declared.rule.Rule.{Rule}
use Rattle.gw_decisions.specs.tally.Tally.{one_more}
use Rattle.gw_watchers.specs.Laws.{AllAreAsked, DifferencesAreSaid, TrialIsDenials, TrialIsDifferences, bare}
use Rattle.gw_watchers.specs.Records.{Line, decided_otherwise, denied_by, other_front, record_of, recorded, records, trial_front}
use Rattle.gw_watchers.specs.Records.{tried_by, unlike, verdicts_text}
use Rattle.gw_watchers.specs.declared.trial.Trial.{Trial}

-- ---- a trial

pub next_number : (last : ℕ) → last + 1 < 2 ^ 64 → one_more last ≡ last + 1
next_number last few = omega (arith, few)

-- an ask that isn't logged adds no refusal, and one that is adds one
logged_out : (rules : List Rule) (ask : Ask) (asked : List Ask) → is_logged rules ask ≡ false → denied_of rules (ask ∷ asked) ≡ denied_of rules asked
logged_out rules ask asked is =
    ap (λ (b : Bool). map (refusal rules) (cond b (ask ∷ filter (is_logged rules) asked) (filter (is_logged rules) asked))) is

logged_in : (rules : List Rule) (ask : Ask) (asked : List Ask) → is_logged rules ask ≡ true
    → denied_of rules (ask ∷ asked) ≡ refusal rules ask ∷ denied_of rules asked
logged_in rules ask asked is =
    ap (λ (b : Bool). map (refusal rules) (cond b (ask ∷ filter (is_logged rules) asked) (filter (is_logged rules) asked))) is

abbrev none_in_front : Asked → List ℕ
none_in_front a = []

trial_from : (rules policy : List Rule) (tick : ℕ) (from : Origin) (last : ℕ) (asked : List Ask) → last + length asked < 2 ^ 64
    → records (denied_by rules) none_in_front rules last tick (map (asked_from from) (verdicts_of policy asked))
    ≡ map bare (denials_from rules (last + 1) tick from (denied_of rules asked))
trial_from rules policy tick from last [] few = refl
trial_from rules policy tick from last (ask ∷ asked) few =
    by (is_logged rules ask) refl (trial_from rules policy tick from last asked (omega (arith, few)))
    (trial_from rules policy tick from (last + 1) asked (omega (arith, few)))
  where
    by : (b : Bool) → is_logged rules ask ≡ b
        → records (denied_by rules) none_in_front rules last tick (map (asked_from from) (verdicts_of policy asked))
        ≡ map bare (denials_from rules (last + 1) tick from (denied_of rules asked))
        → records (denied_by rules) none_in_front rules (last + 1) tick (map (asked_from from) (verdicts_of policy asked))
        ≡ map bare (denials_from rules (last + 1 + 1) tick from (denied_of rules asked))
        → records (denied_by rules) none_in_front rules last tick (map (asked_from from) (verdicts_of policy (ask ∷ asked)))
        ≡ map bare (denials_from rules (last + 1) tick from (denied_of rules (ask ∷ asked)))
    by false is allowed denied =
        let a = asked_from from (verdict policy ask) in
        let rest = map (asked_from from) (verdicts_of policy asked) in
        let skips : denied_of rules (ask ∷ asked) ≡ denied_of rules asked = logged_out rules ask asked is in
        ap (λ (b : Bool). recorded (if b then Some (first rules ask) else None) [] rules last tick a
        (λ number. records (denied_by rules) none_in_front rules number tick rest)) is
        ∙ allowed ∙ sym (ap (λ rs. map bare (denials_from rules (last + 1) tick from rs)) skips)
    by true is allowed denied =
        let a = asked_from from (verdict policy ask) in
        let rest = map (asked_from from) (verdicts_of policy asked) in
        let adds : denied_of rules (ask ∷ asked) ≡ refusal rules ask ∷ denied_of rules asked = logged_in rules ask asked is in
        ap (λ (b : Bool). recorded (if b then Some (first rules ask) else None) [] rules last tick a
        (λ number. records (denied_by rules) none_in_front rules number tick rest)) is
        ∙ ap (λ (n : ℕ). record_of [] rules n tick a (first rules ask) ∷ records (denied_by rules) none_in_front rules n tick rest)
        (next_number last (omega (arith, few)))
        ∙ ap (λ (l : List Line). record_of [] rules (last + 1) tick a (first rules ask) ∷ l) denied
        ∙ sym (ap (λ rs. map bare (denials_from rules (last + 1) tick from rs)) adds)

trial_of : (rules policy : List Rule) (tick last : ℕ) (from : Option Origin) (asked : List Ask) → last + length asked < 2 ^ 64
    → records (denied_by rules) none_in_front rules last tick (asked_of from (verdicts_of policy asked))
    ≡ map bare (denials_of rules (last + 1) tick from (denied_of rules asked))
trial_of rules policy tick last None asked few = refl
trial_of rules policy tick last (Some from) asked few = trial_from rules policy tick from last asked few

-- a trial that has all that is denied
all_denied : (trial : Trial) (rules : List Rule) (last tick : ℕ) (asked : List Asked) → trial.has_all_denied ≡ true
    → records (tried_by trial) (trial_front trial rules) trial.policy last tick asked
    ≡ records (denied_by trial.policy) none_in_front trial.policy last tick asked
all_denied trial rules last tick asked is =
    ap (λ (b : Bool). records (λ a. if b then denied_by trial.policy a else decided_otherwise trial.policy a)
    (λ a. if b then [] else other_front rules a) trial.policy last tick asked) is

pub trial_is_denials : TrialIsDenials
unfolding asked_at
trial_is_denials trial w e last tick is few =
    all_denied trial w.rules last tick (asked_at w e) is
    ∙ trial_of trial.policy w.rules tick last (origin (receive w e)) (asks w e) few

-- ---- differences

-- a trial that has what is decided otherwise
differing : (trial : Trial) (rules : List Rule) (last tick : ℕ) (asked : List Asked) → trial.has_all_denied ≡ false
    → records (tried_by trial) (trial_front trial rules) trial.policy last tick asked
    ≡ records (decided_otherwise trial.policy) (other_front rules) trial.policy last tick asked
differing trial rules last tick asked is =
    ap (λ (b : Bool). records (λ a. if b then denied_by trial.policy a else decided_otherwise trial.policy a)
    (λ a. if b then [] else other_front rules a) trial.policy last tick asked) is

abbrev differ : List Rule → List Rule → Ask → Bool
differ rules policy ask = unlike (allows policy ask) (allows rules ask)

abbrev otherwise : List Rule → List Rule → ℕ → ℕ → List Asked → List Line
otherwise rules policy last tick asked = records (decided_otherwise rules) (other_front policy) rules last tick asked

differences_from : (rules policy : List Rule) (tick : ℕ) (from : Origin) (asked : List Ask) (last : ℕ)
    → map (λ line. line.denial.ask) (otherwise rules policy last tick (map (asked_from from) (verdicts_of policy asked)))
    ≡ filter (differ rules policy) asked
differences_from rules policy tick from [] last = refl
differences_from rules policy tick from (ask ∷ asked) last = by (differ rules policy ask) refl (differences_from rules policy tick from asked)
  where
    by : (b : Bool) → differ rules policy ask ≡ b
        → ((last : ℕ) → map (λ line. line.denial.ask) (otherwise rules policy last tick (map (asked_from from) (verdicts_of policy asked)))
        ≡ filter (differ rules policy) asked)
        → map (λ line. line.denial.ask) (otherwise rules policy last tick (map (asked_from from) (verdicts_of policy (ask ∷ asked))))
        ≡ filter (differ rules policy) (ask ∷ asked)
    by b is later =
        let a = asked_from from (verdict policy ask) in
        let rest = map (asked_from from) (verdicts_of policy asked) in
        ap (λ (c : Bool). map (λ line. line.denial.ask) (recorded (if c then Some (first rules ask) else None) (other_front policy a) rules last tick a
        (λ number. otherwise rules policy number tick rest))) is
        ∙ at b ∙ sym (ap (λ (c : Bool). cond c (ask ∷ filter (differ rules policy) asked) (filter (differ rules policy) asked)) is)
      where
        at : (b : Bool)
            → map (λ line. line.denial.ask) (recorded (if b then Some (first rules ask) else None) (other_front policy (asked_from from (verdict policy ask))) rules last tick
            (asked_from from (verdict policy ask)) (λ number. otherwise rules policy number tick (map (asked_from from) (verdicts_of policy asked))))
            ≡ cond b (ask ∷ filter (differ rules policy) asked) (filter (differ rules policy) asked)
        at true = ap (λ (l : List Ask). ask ∷ l) (later (one_more last))
        at false = later last

differences_received : (rules : List Rule) (w : State) (tick last : ℕ) (received : Received)
    → map (λ line. line.denial.ask) (otherwise rules w.rules last tick
    (asked_of (origin received) (verdicts_of w.rules (asks_for w.rules w.relay w.device received))))
    ≡ filter (differ rules w.rules) (asks_for w.rules w.relay w.device received)
differences_received rules w tick last dropped = refl
differences_received rules w tick last (managed on from frame) =
    differences_from rules w.rules tick _ (asks_for w.rules w.relay w.device (managed on from frame)) last
differences_received rules w tick last (unregistered m) = refl
differences_received rules w tick last (barred m) = differences_from rules w.rules tick _ (asks_for w.rules w.relay w.device (barred m)) last
differences_received rules w tick last (message m) = differences_from rules w.rules tick _ (asks_for w.rules w.relay w.device (message m)) last

pub trial_is_differences : TrialIsDifferences
unfolding asked_at asks
trial_is_differences trial w e last tick is =
    ap (λ (l : List Line). map (λ line. line.denial.ask) l) (differing trial w.rules last tick (asked_at w e) is)
    ∙ differences_received trial.policy w tick last (receive w e)

-- ---- what their lines say

abbrev IsSaid : List Rule → List Rule → Line → Type 0
IsSaid rules policy line =
    (line.front ≡ verdicts_text (allows policy line.denial.ask) (rule_name policy (first policy line.denial.ask)))
    × (line.denial.rule ≡ rule_name rules (first rules line.denial.ask))

said_from : (rules policy : List Rule) (tick : ℕ) (from : Origin) (asked : List Ask) (last : ℕ)
    → AllByRecursion (IsSaid rules policy) (otherwise rules policy last tick (map (asked_from from) (verdicts_of policy asked)))
said_from rules policy tick from [] last = tt
said_from rules policy tick from (ask ∷ asked) last = by (differ rules policy ask) refl (said_from rules policy tick from asked)
  where
    by : (b : Bool) → differ rules policy ask ≡ b
        → ((last : ℕ) → AllByRecursion (IsSaid rules policy) (otherwise rules policy last tick (map (asked_from from) (verdicts_of policy asked))))
        → AllByRecursion (IsSaid rules policy) (otherwise rules policy last tick (map (asked_from from) (verdicts_of policy (ask ∷ asked))))
    by b is later = subst (λ (c : Bool). AllByRecursion (IsSaid rules policy)
        (recorded (if c then Some (first rules ask) else None) (other_front policy (asked_from from (verdict policy ask))) rules last tick
        (asked_from from (verdict policy ask)) (λ number. otherwise rules policy number tick (map (asked_from from) (verdicts_of policy asked)))))
        (sym is) (at b)
      where
        at : (b : Bool) → AllByRecursion (IsSaid rules policy)
            (recorded (if b then Some (first rules ask) else None) (other_front policy (asked_from from (verdict policy ask))) rules last tick
            (asked_from from (verdict policy ask)) (λ number. otherwise rules policy number tick (map (asked_from from) (verdicts_of policy asked))))
        at true = ((refl, refl), later (one_more last))
        at false = later last

said_received : (rules : List Rule) (w : State) (tick last : ℕ) (received : Received)
    → AllByRecursion (IsSaid rules w.rules) (otherwise rules w.rules last tick
    (asked_of (origin received) (verdicts_of w.rules (asks_for w.rules w.relay w.device received))))
said_received rules w tick last dropped = tt
said_received rules w tick last (managed on from frame) = said_from rules w.rules tick _ (asks_for w.rules w.relay w.device (managed on from frame)) last
said_received rules w tick last (unregistered m) = tt
said_received rules w tick last (barred m) = said_from rules w.rules tick _ (asks_for w.rules w.relay w.device (barred m)) last
said_received rules w tick last (message m) = said_from rules w.rules tick _ (asks_for w.rules w.relay w.device (message m)) last

pub differences_are_said : DifferencesAreSaid
unfolding asked_at asks
differences_are_said trial w e last tick is =
    subst (λ (l : List Line). AllByRecursion (IsSaid trial.policy w.rules) l) (sym (differing trial w.rules last tick (asked_at w e) is))
    (said_received trial.policy w tick last (receive w e))

-- ---- each ask

asks_again : (rules : List Rule) (from : Origin) (asked : List Ask)
    → map (λ a. a.verdict.ask) (map (asked_from from) (verdicts_of rules asked)) ≡ asked
asks_again rules from [] = refl
asks_again rules from (ask ∷ asked) = ap (λ (l : List Ask). ask ∷ l) (asks_again rules from asked)

asks_received : (w : State) (received : Received)
    → map (λ a. a.verdict.ask) (asked_of (origin received) (verdicts_of w.rules (asks_for w.rules w.relay w.device received)))
    ≡ asks_for w.rules w.relay w.device received
asks_received w dropped = refl
asks_received w (managed on from frame) = asks_again w.rules _ (asks_for w.rules w.relay w.device (managed on from frame))
asks_received w (unregistered m) = refl
asks_received w (barred m) = asks_again w.rules _ (asks_for w.rules w.relay w.device (barred m))
asks_received w (message m) = asks_again w.rules _ (asks_for w.rules w.relay w.device (message m))

pub all_are_asked : AllAreAsked
unfolding asked_at asks
all_are_asked w e = asks_received w (receive w e)
