-- What an event does that is kept out, and where a message is delivered.
use Rattle.std.proofs.Common.{◌≡◌, ◌∙◌, sym, ap, refl, subst, Bool, true, false, List, [], ◌∷◌, ◌++◌, length, map}
use Rattle.std.specs.Prelude.{filter, if◌then◌else◌, not}
use Rattle.std.specs.List.{AllByRecursion, list_all}
use Rattle.std.specs.Option.{option_map}
use Rattle.gw_relay.specs.Entry.{admits, claim_ask, enter_ask, entry_asks, entry_sends, is_stranger, speaks_for_others}
use Rattle.gw_relay.specs.Laws.{ForgedClaimsAreKeptOut, NothingIsDeliveredOutside, Reaches, StrangersAreKeptOut, is_unicast}
use Rattle.gw_relay.specs.Link.{answer_to, refused}
use Rattle.gw_relay.specs.Message.{Message}
use Rattle.gw_relay.specs.State.{Commit, Relay, moved}
use Rattle.gw_relay.specs.Stations.{belongs}
use Rattle.gw_rules.specs.Allowed.{NoneAllowed}
use Rattle.gw_rules.specs.Ask.{Ask}
use Rattle.gw_rules.specs.Authorizer.{denied_of}
use Rattle.gw_rules.specs.Format.{names_stations}
use Rattle.gw_rules.specs.RuleList.{allows, first, is_quiet_by}
use Rattle.gw_rules.specs.declared.format.Format.{Format}
use Rattle.gw_rules.specs.declared.rule.Rule.{Rule}
use Rattle.gw_rules.proofs.EachAsk.{each_front}
use Rattle.gw_script.specs.Event.{Event, Datagram, Tick}
use Rattle.gw_core.specs.Asks.{asks, asks_for, cast_asks_for, manage_asks_for, message_asks, route_asks_for}
use Rattle.gw_core.specs.Denials.{denials_for}
use Rattle.gw_core.specs.Effects.{change_at, change_for, changed, effects_at, move_at, relay_change_for, route_sends_for, sends_for}
use Rattle.gw_core_laws.specs.FormatTwo.{received_before}
use Rattle.gw_core.specs.History.{next}
use Rattle.gw_core_laws.specs.Laws.{IsKeptOut, NoDeliveryOutside, NoForgedClaim, NoStranger}
use Rattle.gw_core.specs.Receive.{Received, admit, barred, message, receive}
use Rattle.gw_core.specs.State.{State}
use Rattle.gw_core.proofs.DenialLemmas.{counted_for}
use Rattle.gw_core.proofs.RespondLemmas.{four_none}
use Rattle.gw_core_laws.proofs.LoggedLemmas.{logged_once}

-- ---- one denial

-- an ask to enter and an ask to claim, where there are such: the second only if the first is allowed
abbrev two_asks : List Rule → Ask → Ask → Bool → Bool → List Ask
two_asks rules e k strange speaks =
    (if strange then e ∷ [] else [])
    ++ (if list_all (allows rules) (if strange then e ∷ [] else []) then (if speaks then k ∷ [] else []) else [])

-- one of these is denied
abbrev OneDenied : List Rule → List Ask → Type 0
OneDenied rules asks = (refused : Ask) × (filter (λ ask. not (allows rules ask)) asks ≡ refused ∷ [])

-- if they aren't all allowed, one is denied
one_denied : (rules : List Rule) (e k : Ask) (strange speaks x y : Bool) → allows rules e ≡ x → allows rules k ≡ y
    → list_all (allows rules) (two_asks rules e k strange speaks) ≡ false
    → OneDenied rules (two_asks rules e k strange speaks)
one_denied rules e k false false x y is_x is_y out = absurd cc
one_denied rules e k false true x false is_x is_y out = (k, rw is_y refl)
one_denied rules e k false true x true is_x is_y out =
    let all : list_all (allows rules) (k ∷ []) ≡ true = rw is_y refl in
    absurd cc
one_denied rules e k true speaks false y is_x is_y out = (e, rw is_x refl)
one_denied rules e k true false true y is_x is_y out =
    let all : list_all (allows rules) (two_asks rules e k true false) ≡ true = rw is_x refl in
    absurd cc
one_denied rules e k true true true false is_x is_y out = (k, rw (is_x, is_y) refl)
one_denied rules e k true true true true is_x is_y out =
    let all : list_all (allows rules) (two_asks rules e k true true) ≡ true = rw (is_x, is_y) refl in
    absurd cc

denied_once : (rules : List Rule) (relay : Relay) (m : Message) → admits rules relay m ≡ false
    → OneDenied rules (entry_asks rules relay m)
denied_once rules relay m out =
    one_denied rules (enter_ask relay.format m) (claim_ask relay.format m) (is_stranger relay.format m) (speaks_for_others relay m) _ _ refl refl out

-- ---- an event that is kept out

received_of : (w : State) (e : Event) (m : Message) → received_before w e ≡ message m → receive w e ≡ admit w.rules w.relay (message m)
unfolding receive
received_of w (Datagram port from octets) m is = ap (admit w.rules w.relay) is
received_of w Tick m is = absurd cc

is_barred : (w : State) (e : Event) (m : Message) → received_before w e ≡ message m → admits w.rules w.relay m ≡ false → receive w e ≡ barred m
is_barred w e m is out =
    received_of w e m is ∙ ap (λ (b : Bool). if b then message m else barred m) out

move_stays : (w : State) (e : Event) (m : Message) → receive w e ≡ barred m → moved (move_at w e) w.relay ≡ w.relay
unfolding move_at receive
move_stays w (Datagram port from octets) m is =
    ap (λ (r : Received). moved (option_map Commit (relay_change_for w.rules w.relay r)) w.relay) is
move_stays w Tick m is = absurd cc

relay_stays : (w : State) (e : Event) (m : Message) → receive w e ≡ barred m → (next w e).relay ≡ w.relay
unfolding next
relay_stays w e m is = move_stays w e m is

device_stays : (w : State) (e : Event) (m : Message) → receive w e ≡ barred m → (next w e).device ≡ w.device
unfolding next change_at
device_stays w e m is = ap (λ (r : Received). changed (change_for w.rules w.relay.format w.device r) w.device) is

sends_are : (w : State) (e : Event) (m : Message) → receive w e ≡ barred m → (effects_at w e).sends ≡ entry_sends w.rules w.relay m
unfolding effects_at
sends_are w e m is = ap (sends_for w.rules w.relay w.device) is ∙ four_none (entry_sends w.rules w.relay m)

asks_are : (w : State) (e : Event) (m : Message) → receive w e ≡ barred m → asks w e ≡ entry_asks w.rules w.relay m
unfolding asks
asks_are w e m is = ap (asks_for w.rules w.relay w.device) is ∙ four_none (entry_asks w.rules w.relay m)

denials_are : (w : State) (e : Event) (m : Message) → receive w e ≡ barred m
    → (one : OneDenied w.rules (entry_asks w.rules w.relay m))
    → length (effects_at w e).denials ≡ (if is_quiet_by w.rules (first w.rules one.0) then 0 else 1)
unfolding effects_at
denials_are w e m is one =
    ap (λ (r : Received). length (denials_for w r)) is ∙ counted_for w (barred m)
    ∙ ap (λ (l : List Ask). length (denied_of w.rules l)) (four_none (entry_asks w.rules w.relay m))
    ∙ logged_once w.rules (entry_asks w.rules w.relay m) one.0 one.1

kept_out : (w : State) (e : Event) (m : Message) → received_before w e ≡ message m → admits w.rules w.relay m ≡ false → IsKeptOut w e m
kept_out w e m is out =
    let barred_so = is_barred w e m is out in
    let one = denied_once w.rules w.relay m out in record {
      sends = sends_are w e m barred_so
          ∙ ap (λ (b : Bool). if b then [] else map (answer_to m.here.port m.from) (refused m.frame)) out;
      asked = asks_are w e m barred_so;
      refused = one.0;
      alone = ap (λ (l : List Ask). filter (λ ask. not (allows w.rules ask)) l) (asks_are w e m barred_so) ∙ one.1;
      denied = denials_are w e m barred_so one;
      relay = relay_stays w e m barred_so;
      device = device_stays w e m barred_so;
    }

-- ---- what holds of the asks of an event holds of those before it is taken

front_of : (P : Ask → Type 0) (w : State) (m : Message) → AllByRecursion P (asks_for w.rules w.relay w.device (message m))
    → AllByRecursion P (entry_asks w.rules w.relay m)
front_of P w m all =
    let a = entry_asks w.rules w.relay m in
    let b = cast_asks_for w.relay (message m) in
    let c = route_asks_for w.relay (message m) in
    let e = manage_asks_for w.relay (message m) in
    let front = each_front P in
    front a b (front (a ++ b) c (front (a ++ b ++ c) e (front (a ++ b ++ c ++ e) (message_asks w.rules w.relay.format w.device m) all)))

pub entry_each : (P : Ask → Type 0) (w : State) (e : Event) (m : Message) → received_before w e ≡ message m → AllByRecursion P (asks w e)
    → AllByRecursion P (entry_asks w.rules w.relay m)
unfolding asks
entry_each P w e m is all =
    by (admits w.rules w.relay m)
    (subst (λ (r : Received). AllByRecursion P (asks_for w.rules w.relay w.device r)) (received_of w e m is) all)
  where
    by : (b : Bool) → AllByRecursion P (asks_for w.rules w.relay w.device (if b then message m else barred m))
        → AllByRecursion P (entry_asks w.rules w.relay m)
    by true all = front_of P w m all
    by false all = subst (AllByRecursion P) (four_none (entry_asks w.rules w.relay m)) all

entry_none : (Such : Ask → Type 0) (w : State) (e : Event) (m : Message) → received_before w e ≡ message m → NoneAllowed Such w.rules (asks w e)
    → NoneAllowed Such w.rules (entry_asks w.rules w.relay m)
entry_none Such w e m is none = entry_each (λ ask. Such ask → allows w.rules ask ≡ false) w e m is none

-- ---- the laws

pub no_forged_claim : ForgedClaimsAreKeptOut → NoForgedClaim
no_forged_claim law w e m source three is names apart none =
    kept_out w e m is (law w.rules w.relay m source (ap names_stations three) names apart (entry_none _ w e m is none))

pub no_stranger : StrangersAreKeptOut → NoStranger
no_stranger law w e m three is enters outside none =
    kept_out w e m is (law w.rules w.relay m (ap names_stations three) enters
    (ap (λ (format : Format). belongs format m.here m.link) three ∙ outside) (entry_none _ w e m is none))

pub no_delivery_outside : NothingIsDeliveredOutside → NoDeliveryOutside
no_delivery_outside law w e m is =
    subst (λ (r : Received). AllByRecursion (λ s. is_unicast s ≡ true → Reaches w.relay m s) (route_sends_for w.rules w.relay r)) (sym is)
    (law w.rules w.relay m)
