-- What is asked, with its verdicts.
use Rattle.std.proofs.Common.{◌≡◌, ◌∙◌, sym, ap, refl, Bool, true, false, List, [], ◌∷◌, map, Option, Some, None}
use Rattle.gw_rules.specs.Ask.{Ask}
use Rattle.gw_rules.specs.Asker.{verdicts_of}
use Rattle.gw_rules.specs.Authorizer.{denied_of, refusal}
use Rattle.gw_rules.specs.RuleList.{allows, first, is_quiet_by}
use Rattle.gw_rules.specs.declared.refusal.Refusal.{Refusal}
use Rattle.gw_rules.specs.declared.rule.Rule.{Rule}
use Rattle.gw_rules.specs.declared.verdict.Verdict.{Verdict}
use Rattle.gw_objects.specs.Objects.{Database}
use Rattle.gw_relay.specs.Cast.{accepts, is_unregistered}
use Rattle.gw_relay.specs.Message.{Message, message_view}
use Rattle.gw_relay.specs.State.{Relay}
use Rattle.gw_script.specs.Event.{Event, Tick}
use Rattle.gw_core.specs.Asked.{asked_at, asked_from, asked_of, refused_of}
use Rattle.gw_core.specs.Asks.{asks, asks_for}
use Rattle.gw_core.specs.Receive.{Origin, Received, admit, dropped, unregistered, message, message_origin, origin, receive}
use Rattle.gw_core.specs.State.{State}
use Rattle.gw_core.specs.internal.View.{admitted_view, judged, origin_of, received_view}
use Rattle.gw_core.specs.declared.receive.Received.{Received as LentReceived}
use Rattle.gw_core.specs.declared.receive.Received.TheVariants as lent
use Rattle.gw_core.proofs.DenialLemmas.{asks_received, origin_admitted}

-- ---- the refusals

-- the refusals among the verdicts on asks are the asks that are denied
pub refused_are : (rules : List Rule) (asked : List Ask) → refused_of (verdicts_of rules asked) ≡ denied_of rules asked
refused_are rules [] = refl
refused_are rules (ask ∷ asked) = by (allows rules ask) (is_quiet_by rules (first rules ask)) refl refl (refused_are rules asked)
  where
    by : (b quiet : Bool) → allows rules ask ≡ b → is_quiet_by rules (first rules ask) ≡ quiet
        → refused_of (verdicts_of rules asked) ≡ denied_of rules asked
        → refused_of (verdicts_of rules (ask ∷ asked)) ≡ denied_of rules (ask ∷ asked)
    by true quiet is said later = rw is later
    by false true is said later = rw (is, said) later
    by false false is said later = rw (is, said) (ap (λ (l : List Refusal). refusal rules ask ∷ l) later)

-- ---- whence it comes

-- What is said of asks, where nothing that is asked is said to be the same of everyone: what the code takes unjudged is
-- what it is received as.
judged_reports : {X : Type 0} (said : Option Origin → List Ask → X) → ((from : Option Origin) → said from [] ≡ said None [])
    → (rules : List Rule) (relay : Relay) (d : Database) (m : Message) (heard strange : Bool)
    → heard ≡ accepts m.here m.from m.frame → strange ≡ is_unregistered m.here m.from m.frame
    → said (Some (message_origin m)) (asks_for rules relay d (admit rules relay (judged m)))
    ≡ said (origin (admit rules relay (judged m))) (asks_for rules relay d (admit rules relay (judged m)))
judged_reports said unasked rules relay d m false strange h s =
    let out : judged m ≡ dropped = rw (← h) refl in
    let none : asks_for rules relay d (admit rules relay (judged m)) ≡ [] =
    ap (λ (r : Received). asks_for rules relay d (admit rules relay r)) out in
    ap (said (Some (message_origin m))) none ∙ unasked (Some (message_origin m))
    ∙ sym (unasked (origin (admit rules relay (judged m)))) ∙ ap (said (origin (admit rules relay (judged m)))) (sym none)
judged_reports said unasked rules relay d m true true h s =
    let out : judged m ≡ unregistered m = rw (← h, ← s) refl in
    let none : asks_for rules relay d (admit rules relay (judged m)) ≡ [] =
    ap (λ (r : Received). asks_for rules relay d (admit rules relay r)) out in
    ap (said (Some (message_origin m))) none ∙ unasked (Some (message_origin m))
    ∙ sym (unasked (origin (admit rules relay (judged m)))) ∙ ap (said (origin (admit rules relay (judged m)))) (sym none)
judged_reports said unasked rules relay d m true false h s =
    let out : judged m ≡ message m = rw (← h, ← s) refl in
    ap (λ (from : Option Origin). said from (asks_for rules relay d (admit rules relay (judged m))))
    (sym (ap (λ (r : Received). origin (admit rules relay r)) out ∙ origin_admitted rules relay m))

lent_reports : {X : Type 0} (said : Option Origin → List Ask → X) → ((from : Option Origin) → said from [] ≡ said None [])
    → (rules : List Rule) (relay : Relay) (d : Database) (received : LentReceived)
    → said (origin_of received) (asks_for rules relay d (admit rules relay (received_view received)))
    ≡ said (origin (admit rules relay (received_view received))) (asks_for rules relay d (admit rules relay (received_view received)))
lent_reports said unasked rules relay d (lent.Dropped why) = refl
lent_reports said unasked rules relay d (lent.Managed m) = refl
lent_reports said unasked rules relay d (lent.Message m) =
    let view = message_view m in
    judged_reports said unasked rules relay d view (accepts view.here view.from view.frame) (is_unregistered view.here view.from view.frame) refl refl

-- what is said of what the code takes is what is said of the event's asks
pub reported_as : {X : Type 0} (said : Option Origin → List Ask → X) → ((from : Option Origin) → said from [] ≡ said None [])
    → (w : State) (e : Event) (received : LentReceived) → admitted_view w received ≡ receive w e
    → said (origin_of received) (asks_for w.rules w.relay w.device (admitted_view w received)) ≡ said (origin (receive w e)) (asks w e)
reported_as said unasked w e received is =
    lent_reports said unasked w.rules w.relay w.device received
    ∙ ap (λ (r : Received). said (origin r) (asks_for w.rules w.relay w.device r)) is
    ∙ ap (said (origin (receive w e))) (sym (asks_received w e (receive w e) refl))

-- what an event asks, with its verdicts
pub asked_is : (w : State) (e : Event) → asked_of (origin (receive w e)) (verdicts_of w.rules (asks w e)) ≡ asked_at w e
unfolding asked_at
asked_is w e = refl

-- a tick asks nothing
pub asked_at-tick : (w : State) → asked_at w Tick ≡ []
unfolding asked_at receive
asked_at-tick w = refl

-- where nothing is asked, nothing is said to be asked
pub none_asked : (w : State) (e : Event) → asks w e ≡ [] → asked_at w e ≡ []
unfolding asked_at
none_asked w e none = ap (λ (l : List Ask). asked_of (origin (receive w e)) (verdicts_of w.rules l)) none ∙ of_nobody (origin (receive w e))
  where
    of_nobody : (from : Option Origin) → asked_of from [] ≡ []
    of_nobody None = refl
    of_nobody (Some from) = refl

-- and where nothing is said to be asked, there is no verdict
pub no_verdict : (from : Origin) (verdicts : List Verdict) → map (asked_from from) verdicts ≡ [] → verdicts ≡ []
no_verdict from [] none = refl
no_verdict from (verdict ∷ verdicts) none = absurd cc
