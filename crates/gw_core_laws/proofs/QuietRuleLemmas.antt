-- Quiet rules leave lines out of the log, and change nothing else.
use Rattle.std.proofs.Common.{◌≡◌, ◌∙◌, sym, ap, ap₂, refl, subst, ℕ, zero, suc, ◌+◌, ◌-◌, Bool, true, false, not, cond, ◌&&◌, nat_eq, nat_lt, List, [], ◌∷◌, ◌++◌, length, map, Option, Some, None, arith}
use Rattle.std.specs.Prelude.{◌==◌, filter, if◌then◌else◌, slice_get}
use Rattle.std.specs.List.{AllByRecursion, list_all, position_or_len}
use Rattle.std.specs.Option.{option_map, option_map_or}
use Rattle.std.proofs.lemmas.Bool.{and_parts}
use Rattle.std.proofs.lemmas.List.{length-append, length-map}
use Rattle.std.proofs.lemmas.List.Elements.{filter-append}
use Rattle.std.proofs.lemmas.Option.{slice_get-map}
use Rattle.gw_rules.specs.Ask.{Ask}
use Rattle.gw_rules.specs.Authorizer.{denied_of, refusal}
use Rattle.gw_rules.specs.Rule.{matches}
use Rattle.gw_rules.specs.RuleList.{allows, allows_at, first, has_no_quiet, is_logged, is_quiet_at, is_quiet_by, without_quiet}
use Rattle.gw_rules.specs.declared.refusal.Refusal.{Refusal}
use Rattle.gw_rules.specs.declared.rule.Rule.{Rule}
use Rattle.gw_audit.specs.declared.denial.Denial.{Denial}
use Rattle.gw_script.specs.Event.{Event}
use Rattle.gw_relay.specs.Sends.{Sending}
use Rattle.gw_core.specs.Asks.{asks, asks_for}
use Rattle.gw_core.specs.Denials.{default_name, denials_at, denials_for, denials_from, denials_of, name_at, rule_name}
use Rattle.gw_core.specs.Effects.{effects_at, sends_for}
use Rattle.gw_core.specs.History.{log, next, run_from, state_from}
use Rattle.gw_core.specs.Receive.{Origin, Received, origin, receive, source_of}
use Rattle.gw_core.specs.State.{State}
use Rattle.gw_core.specs.declared.effects.Effects.{Effects}
use Rattle.gw_core_laws.specs.Decisions.{DecideAlike, DecideAlikeAlong, counting, under}
use Rattle.gw_core_laws.specs.Quiet.{NoQuietIsAsBefore, NoQuietRunsAsBefore, OnlyLogsLess, QuietRulesLogLess, QuietRulesRunLogLess, RunOnlyLogsLess, denied_before, effects_before, is_loud, left_before, next_before, numbered_on, run_before}
use Rattle.gw_core_laws.proofs.CountingLemmas.{receive_counting}
use Rattle.gw_core_laws.proofs.DecisionLemmas.{left_along, next_beside, received_alike, same_asks, same_next_but, same_sends, sends_along}
use Rattle.gw_core_laws.proofs.LoggedLemmas.{is_denied, logged_of}
use Rattle.gw_core_laws.proofs.LoggedLemmas.{is_loud as asks_loud}

-- ---- lists

-- what passes the same test
same_filter : {A : Type 0} (f g : A → Bool) → ((x : A) → f x ≡ g x) → (xs : List A) → filter f xs ≡ filter g xs
same_filter f g same [] = refl
same_filter f g same (x ∷ xs) = ap₂ (λ (b : Bool) (l : List _). cond b (x ∷ l) l) (same x) (same_filter f g same xs)

-- ---- a list of rules without the word

-- a rule without the word
abbrev loud : Rule → Rule
loud rule = record rule { quiet = false }

-- it matches what it matches with it
matches_so : (rule : Rule) (ask : Ask) → matches (loud rule) ask ≡ matches rule ask
unfolding matches
matches_so rule ask = refl

place_so : (rules : List Rule) (ask : Ask)
    → position_or_len (λ rule. matches rule ask) (without_quiet rules) ≡ position_or_len (λ rule. matches rule ask) rules
place_so [] ask = refl
place_so (rule ∷ rules) ask =
    ap₂ (λ (b : Bool) (n : ℕ). cond (not b) (1 + n) 0) (matches_so rule ask) (place_so rules ask)

first_so : (rules : List Rule) (ask : Ask) → first (without_quiet rules) ask ≡ first rules ask
unfolding first
first_so rules ask =
    ap₂ (λ (n k : ℕ). option_map (λ place. place + 1) (cond (nat_lt n k) (Some n) None)) (place_so rules ask)
    (length-map rules loud)

-- what is looked up of a rule but the word
looked_up : {A : Type 0} (f : Rule → A) (d : A) → ((rule : Rule) → f (loud rule) ≡ f rule)
    → (found : Option Rule) → option_map_or f (option_map loud found) d ≡ option_map_or f found d
looked_up f d same None = refl
looked_up f d same (Some rule) = same rule

allows_at_so : (rules : List Rule) (number : ℕ) → allows_at (without_quiet rules) number ≡ allows_at rules number
allows_at_so rules number =
    ap (λ (found : Option Rule). option_map_or (λ rule. rule.allow) found false) (slice_get-map loud rules (number - 1))
    ∙ looked_up (λ rule. rule.allow) false (λ rule. refl) (slice_get rules (number - 1))

pub allows_so : (rules : List Rule) (ask : Ask) → allows (without_quiet rules) ask ≡ allows rules ask
unfolding allows
allows_so rules ask =
    ap (λ (number : Option ℕ). option_map_or (allows_at (without_quiet rules)) number false) (first_so rules ask) ∙ by (first rules ask)
  where
    by : (number : Option ℕ) → option_map_or (allows_at (without_quiet rules)) number false ≡ option_map_or (allows_at rules) number false
    by None = refl
    by (Some number) = allows_at_so rules number

-- none of them is quiet
never_quiet : (found : Option Rule) → option_map_or (λ rule. rule.quiet) (option_map loud found) false ≡ false
never_quiet None = refl
never_quiet (Some rule) = refl

not_quiet_at : (rules : List Rule) (number : ℕ) → is_quiet_at (without_quiet rules) number ≡ false
not_quiet_at rules number =
    ap (λ (found : Option Rule). option_map_or (λ rule. rule.quiet) found false) (slice_get-map loud rules (number - 1))
    ∙ never_quiet (slice_get rules (number - 1))

not_quiet_by : (rules : List Rule) (by : Option ℕ) → is_quiet_by (without_quiet rules) by ≡ false
not_quiet_by rules None = refl
not_quiet_by rules (Some number) = not_quiet_at rules number

all_but : (b : Bool) → (b && not false) ≡ b
all_but true = refl
all_but false = refl

-- so all is logged that is denied
logged_so : (rules : List Rule) (ask : Ask) → is_logged (without_quiet rules) ask ≡ is_denied rules ask
logged_so rules ask =
    ap₂ (λ (allowed quiet : Bool). not allowed && not quiet) (allows_so rules ask) (not_quiet_by rules (first (without_quiet rules) ask))
    ∙ all_but (is_denied rules ask)

-- a refusal of this ask by the rule of this number
abbrev refused_by : Ask → Option ℕ → Refusal
refused_by ask by = record { ask = ask; by = by }

refusals_so : (rules : List Rule) (asked : List Ask) → map (refusal (without_quiet rules)) asked ≡ map (refusal rules) asked
refusals_so rules [] = refl
refusals_so rules (ask ∷ asked) =
    ap₂ (λ (by : Option ℕ) (l : List Refusal). refused_by ask by ∷ l) (first_so rules ask) (refusals_so rules asked)

denied_so : (rules : List Rule) (asked : List Ask) → denied_of (without_quiet rules) asked ≡ map (refusal rules) (filter (is_denied rules) asked)
denied_so rules asked =
    ap (map (refusal (without_quiet rules))) (same_filter (is_logged (without_quiet rules)) (is_denied rules) (logged_so rules) asked)
    ∙ refusals_so rules (filter (is_denied rules) asked)

-- and each by a rule of the same name
name_so : (rules : List Rule) (number : ℕ) → name_at (without_quiet rules) number ≡ name_at rules number
name_so rules number =
    ap (λ (name : List ℕ). if number == 0 then default_name else name)
    (ap (λ (found : Option Rule). option_map_or (λ rule. rule.name) found default_name) (slice_get-map loud rules (number - 1))
    ∙ looked_up (λ rule. rule.name) default_name (λ rule. refl) (slice_get rules (number - 1)))

rule_name_so : (rules : List Rule) (by : Option ℕ) → rule_name (without_quiet rules) by ≡ rule_name rules by
rule_name_so rules None = refl
rule_name_so rules (Some number) = name_so rules number

-- the denial of an ask under a name
abbrev denial_named : ℕ → ℕ → Origin → Ask → List ℕ → Denial
denial_named number tick from ask name = record {
  number = number;
  tick = tick;
  port = from.port;
  source = source_of from ask;
  ask = ask;
  rule = name;
}

named_so : (rules : List Rule) (number tick : ℕ) (from : Origin) (refusals : List Refusal)
    → denials_from (without_quiet rules) number tick from refusals ≡ denials_from rules number tick from refusals
named_so rules number tick from [] = refl
named_so rules number tick from (r ∷ refusals) =
    ap₂ (λ (name : List ℕ) (l : List Denial). denial_named number tick from r.ask name ∷ l) (rule_name_so rules r.by)
    (named_so rules (number + 1) tick from refusals)

-- ---- the denials without those by quiet rules

left_loud : (rules : List Rule) (tick : ℕ) (from : Origin) (asked : List Ask) (number other : ℕ)
    → denials_from rules number tick from (map (refusal rules) (filter (asks_loud rules) asked))
    ≡ numbered_on number (filter (is_loud rules) (denials_from rules other tick from (map (refusal rules) asked)))
left_loud rules tick from [] number other = refl
left_loud rules tick from (ask ∷ asked) number other =
    by (asks_loud rules ask) (left_loud rules tick from asked number (other + 1)) (left_loud rules tick from asked (number + 1) (other + 1))
  where
    by : (b : Bool)
        → denials_from rules number tick from (map (refusal rules) (filter (asks_loud rules) asked))
        ≡ numbered_on number (filter (is_loud rules) (denials_from rules (other + 1) tick from (map (refusal rules) asked)))
        → denials_from rules (number + 1) tick from (map (refusal rules) (filter (asks_loud rules) asked))
        ≡ numbered_on (number + 1) (filter (is_loud rules) (denials_from rules (other + 1) tick from (map (refusal rules) asked)))
        → denials_from rules number tick from (map (refusal rules) (cond b (ask ∷ filter (asks_loud rules) asked) (filter (asks_loud rules) asked)))
        ≡ numbered_on number (cond b (denial_named other tick from ask (rule_name rules (first rules ask)) ∷ filter (is_loud rules) (denials_from rules (other + 1) tick from (map (refusal rules) asked)))
        (filter (is_loud rules) (denials_from rules (other + 1) tick from (map (refusal rules) asked))))
    by false here later = here
    by true here later = ap (λ (l : List Denial). denial_named number tick from ask (rule_name rules (first rules ask)) ∷ l) later

loud_of : (rules : List Rule) (tick : ℕ) (from : Option Origin) (asked : List Ask) (number other : ℕ)
    → denials_of rules number tick from (denied_of rules asked)
    ≡ numbered_on number (filter (is_loud rules) (denials_of (without_quiet rules) other tick from (denied_of (without_quiet rules) asked)))
loud_of rules tick None asked number other = refl
loud_of rules tick (Some from) asked number other =
    ap (λ (l : List Ask). denials_from rules number tick from (map (refusal rules) l)) (logged_of rules asked)
    ∙ left_loud rules tick from (filter (is_denied rules) asked) number other
    ∙ ap (λ (l : List Denial). numbered_on number (filter (is_loud rules) l))
    (sym (named_so rules other tick from (map (refusal rules) (filter (is_denied rules) asked)))
    ∙ ap (denials_from (without_quiet rules) other tick from) (sym (denied_so rules asked)))

length_on : (number : ℕ) (denials : List Denial) → length (numbered_on number denials) ≡ length denials
length_on number [] = refl
length_on number (d ∷ denials) = ap suc (length_on (number + 1) denials)

on_both : (number : ℕ) (one two : List Denial) → numbered_on number (one ++ two) ≡ numbered_on number one ++ numbered_on (number + length one) two
on_both number [] two =
    let same : number ≡ number + 0 = omega arith in
    ap (λ (n : ℕ). numbered_on n two) same
on_both number (d ∷ one) two =
    let same : number + 1 + length one ≡ number + length (d ∷ one) = omega arith in
    ap (λ (l : List Denial). record d { number = number } ∷ l)
    (on_both (number + 1) one two ∙ ap (λ (n : ℕ). numbered_on (number + 1) one ++ numbered_on n two) same)

-- ---- an event

-- without the word the rules decide the same
decide_so : (rules : List Rule) (asked : List Ask) → DecideAlike rules (without_quiet rules) asked
decide_so rules [] = tt
decide_so rules (ask ∷ asked) = (sym (allows_so rules ask), decide_so rules asked)

asked_so : (w : State) (e : Event)
    → asks_for (without_quiet w.rules) w.relay w.device (receive w e) ≡ asks_for w.rules w.relay w.device (receive w e)
unfolding asks
asked_so w e =
    ap (λ (y : Received). asks_for (without_quiet w.rules) w.relay w.device y)
    (sym (received_alike w (without_quiet w.rules) e (decide_so w.rules (asks w e))))
    ∙ same_asks w (without_quiet w.rules) e (decide_so w.rules (asks w e))

abbrev aside : ℕ → State → State
aside n w = counting n (under (without_quiet w.rules) w)

denied_aside : (n : ℕ) (w : State) (e : Event)
    → denials_at w e ≡ numbered_on (w.denials + 1) (filter (is_loud w.rules) (denials_at (aside n w) e))
unfolding denials_at
denied_aside n w e =
    let rules = w.rules in
    let x = receive w e in
    let alike = decide_so rules (asks w e) in
    let same = asked_so w e in
    let got : receive (aside n w) e ≡ x = receive_counting n (under (without_quiet rules) w) e ∙ received_alike w (without_quiet rules) e alike in
    loud_of rules w.ticks (origin x) (asks_for rules w.relay w.device x) (w.denials + 1) (n + 1)
    ∙ ap (λ (asked : List Ask). numbered_on (w.denials + 1) (filter (is_loud rules)
    (denials_of (without_quiet rules) (n + 1) w.ticks (origin x) (denied_of (without_quiet rules) asked)))) (sym same)
    ∙ ap (λ (y : Received). numbered_on (w.denials + 1) (filter (is_loud rules) (denials_for (aside n w) y))) (sym got)

pub quiet_rules_log_less : QuietRulesLogLess
unfolding effects_at denials_at
quiet_rules_log_less w e =
    let others = without_quiet w.rules in
    let alike = decide_so w.rules (asks w e) in record {
      asks = sym (same_asks w others e alike);
      sends = sym (same_sends w others e alike);
      denials = denied_aside w.denials w e;
      next = sym (same_next_but w others e alike);
    }

-- ---- a run

decide_along : (w : State) (l : List Event) → DecideAlikeAlong (without_quiet w.rules) w l
unfolding DecideAlikeAlong next
decide_along w [] = tt
decide_along w (e ∷ l) = (decide_so w.rules (asks w e), decide_along (next w e) l)

rules_stay : (w : State) (e : Event) → (next w e).rules ≡ w.rules
unfolding next
rules_stay w e = refl

counted_on : (w : State) (e : Event) → (next w e).denials ≡ w.denials + length (denials_at w e)
unfolding next
counted_on w e = refl

log_aside : (n : ℕ) (w : State) (l : List Event)
    → log (run_from w l) ≡ numbered_on (w.denials + 1) (filter (is_loud w.rules) (log (run_from (aside n w) l)))
unfolding run_from effects_at denials_at next
log_aside n w [] = refl
log_aside n w (e ∷ l) =
    let v = aside n w in
    let there = filter (is_loud w.rules) (denials_at v e) in
    let rest = filter (is_loud w.rules) (log (run_from (next v e) l)) in
    let here : denials_at w e ≡ numbered_on (w.denials + 1) there = denied_aside n w e in
    let later : next v e ≡ aside (next v e).denials (next w e) = next_beside w (without_quiet w.rules) n e (decide_so w.rules (asks w e)) in
    let many : length (denials_at w e) ≡ length there = ap (λ (l : List Denial). length l) here ∙ length_on (w.denials + 1) there in
    let after : w.denials + length there + 1 ≡ w.denials + 1 + length there = omega arith in
    ap₂ (λ (one two : List Denial). one ++ two) here
    (log_aside (next v e).denials (next w e) l
    ∙ ap (λ (s : State). numbered_on (w.denials + length (denials_at w e) + 1) (filter (is_loud w.rules) (log (run_from s l)))) (sym later)
    ∙ ap (λ (k : ℕ). numbered_on k rest) (ap (λ (k : ℕ). w.denials + k + 1) many ∙ after))
    ∙ sym (on_both (w.denials + 1) there rest)
    ∙ ap (numbered_on (w.denials + 1)) (sym (filter-append (is_loud w.rules) (denials_at v e) (log (run_from (next v e) l))))

pub quiet_rules_run_log_less : QuietRulesRunLogLess
quiet_rules_run_log_less w l =
    let others = without_quiet w.rules in record {
      sends = sym (sends_along w others w.denials l (decide_along w l));
      log = log_aside w.denials w l;
      state = sym (left_along w others w.denials l (decide_along w l));
    }

-- ---- without a quiet rule

none_at : (rules : List Rule) (place : ℕ) → has_no_quiet rules ≡ true → option_map_or (λ rule. rule.quiet) (slice_get rules place) false ≡ false
none_at [] place none = refl
none_at (rule ∷ rules) zero none = by rule.quiet (and_parts (not rule.quiet) (has_no_quiet rules) none).0
  where
    by : (b : Bool) → not b ≡ true → b ≡ false
    by true e = absurd cc
    by false e = refl
none_at (rule ∷ rules) (suc place) none = none_at rules place (and_parts (not rule.quiet) (has_no_quiet rules) none).1

none_by : (rules : List Rule) (by : Option ℕ) → has_no_quiet rules ≡ true → is_quiet_by rules by ≡ false
none_by rules None none = refl
none_by rules (Some number) none = none_at rules (number - 1) none

-- all is logged that is denied
pub logged_all : (rules : List Rule) → has_no_quiet rules ≡ true → (ask : Ask) → is_logged rules ask ≡ is_denied rules ask
logged_all rules none ask =
    ap (λ (quiet : Bool). is_denied rules ask && not quiet) (none_by rules (first rules ask) none) ∙ all_but (is_denied rules ask)

denied_all : (rules : List Rule) (asked : List Ask) → has_no_quiet rules ≡ true → denied_of rules asked ≡ denied_before rules asked
denied_all rules asked none = ap (map (refusal rules)) (same_filter (is_logged rules) (is_denied rules) (logged_all rules none) asked)

denials_all : (w : State) (e : Event) → has_no_quiet w.rules ≡ true
    → denials_at w e ≡ denials_of w.rules (w.denials + 1) w.ticks (origin (receive w e)) (denied_before w.rules (asks w e))
unfolding denials_at asks
denials_all w e none =
    ap (denials_of w.rules (w.denials + 1) w.ticks (origin (receive w e)))
    (denied_all w.rules (asks_for w.rules w.relay w.device (receive w e)) none)

-- what is sent and denied
abbrev effects_of : List Sending → List Denial → Effects
effects_of sent denied = record { sends = sent; denials = denied }

effects_all : (w : State) (e : Event) → has_no_quiet w.rules ≡ true → effects_at w e ≡ effects_before w e
unfolding effects_at denials_at
effects_all w e none = ap (λ (l : List Denial). effects_of (sends_for w.rules w.relay w.device (receive w e)) l) (denials_all w e none)

next_all : (w : State) (e : Event) → has_no_quiet w.rules ≡ true → next w e ≡ next_before w e
unfolding next
next_all w e none = ap (λ (l : List Denial). record (next w e) { denials = w.denials + length l }) (denials_all w e none)

pub no_quiet_is_as_before : NoQuietIsAsBefore
no_quiet_is_as_before w e none = (effects_all w e none, next_all w e none)

run_all : (w : State) (l : List Event) → has_no_quiet w.rules ≡ true → run_from w l ≡ run_before w l
unfolding run_from run_before
run_all w [] none = refl
run_all w (e ∷ l) none =
    ap₂ (λ (x : Effects) (xs : List Effects). x ∷ xs) (effects_all w e none)
    (run_all (next w e) l (subst (λ (rules : List Rule). has_no_quiet rules ≡ true) (sym (rules_stay w e)) none)
    ∙ ap (λ (v : State). run_before v l) (next_all w e none))

left_all : (w : State) (l : List Event) → has_no_quiet w.rules ≡ true → state_from w l ≡ left_before w l
unfolding state_from left_before
left_all w [] none = refl
left_all w (e ∷ l) none =
    left_all (next w e) l (subst (λ (rules : List Rule). has_no_quiet rules ≡ true) (sym (rules_stay w e)) none)
    ∙ ap (λ (v : State). left_before v l) (next_all w e none)

pub no_quiet_runs_as_before : NoQuietRunsAsBefore
no_quiet_runs_as_before w l none = (run_all w l none, left_all w l none)
