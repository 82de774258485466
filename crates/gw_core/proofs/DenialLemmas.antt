-- How many denials there are, and how the record of refusals goes on.
use Rattle.std.proofs.Common.{◌≡◌, ℕ, suc, ◌+◌, ◌<◌, Bool, true, false, List, [], ◌∷◌, ◌++◌, length, get_or, drop, Option, Some, None, refl, sym, ap, ◌∙◌, arith, append_assoc}
use Rattle.std.proofs.Math.Seq.{drop-cons}
use Rattle.gw_rules.specs.Authorizer.{denied_of}
use Rattle.gw_rules.specs.declared.refusal.Refusal.{Refusal}
use Rattle.gw_rules.specs.declared.rule.Rule.{Rule}
use Rattle.gw_objects.specs.Objects.{Database}
use Rattle.gw_device.specs.declared.context.Context.{Context}
use Rattle.gw_device.specs.Device.{device_answer, device_asks, device_change}
use Rattle.gw_audit.specs.declared.denial.Denial.{Denial}
use Rattle.gw_script.specs.Event.{Event}
use Rattle.gw_core.specs.Asks.{apdu_asks, asks, asks_for, message_asks}
use Rattle.gw_core.specs.Effects.{apdu_answer, apdu_change}
use Rattle.gw_core.specs.Denials.{denials_at, denials_from, denials_of, denials_for}
use Rattle.gw_relay.specs.Message.{Message}
use Rattle.gw_core.specs.Receive.{Origin, Received, admit, barred, dropped, managed, unregistered, message, message_origin, node_origin, origin, receive}
use Rattle.gw_core.specs.Reply.{apdu_for, context_of}
use Rattle.gw_core.specs.State.{State, device_network}
use Rattle.gw_relay.specs.Message.{message_view}
use Rattle.gw_core.specs.internal.View.{admitted_view, judged, origin_of, received_view}
use Rattle.gw_core.specs.declared.receive.Received.{Received as LentReceived}
use Rattle.gw_core.specs.declared.receive.Received.TheVariants as lent
use Rattle.std.specs.Prelude.{if◌then◌else◌}
use Rattle.gw_relay.specs.Cast.{accepts, is_unregistered}
use Rattle.gw_relay.specs.Entry.{admits}
use Rattle.gw_rules.specs.declared.format.Format.{Format}
use Rattle.gw_relay.specs.State.{Relay}

-- a denial for each refusal
pub length_denials : (rules : List Rule) (number tick : ℕ) (from : Origin) (refusals : List Refusal)
    → length (denials_from rules number tick from refusals) ≡ length refusals
length_denials rules number tick from [] = refl
length_denials rules number tick from (r ∷ rs) = ap suc (length_denials rules (number + 1) tick from rs)

-- one refusal more of the list
pub denials_more : (rules : List Rule) (number tick : ℕ) (from : Origin) (refusals : List Refusal) (i : ℕ) (r : Refusal) (denial : Denial)
    (so_far whole : List Denial) → i < length refusals → r ≡ get_or refusals i r
    → denial ∷ denials_from rules (number + i + 1) tick from (drop (suc i) refusals) ≡ denials_from rules (number + i) tick from
    (r ∷ drop (suc i) refusals)
    → so_far ++ denials_from rules (number + i) tick from (drop i refusals) ≡ whole
    → (so_far ++ denial ∷ []) ++ denials_from rules (number + (i + 1)) tick from (drop (i + 1) refusals) ≡ whole
denials_more rules number tick from refusals i r denial so_far whole lt is one wording =
    let rest : drop i refusals ≡ r ∷ drop (suc i) refusals = drop-cons refusals i r lt
    ∙ ap (λ (x : Refusal). x ∷ drop (suc i) refusals) (sym is) in
    let later : number + (i + 1) ≡ number + i + 1 = omega arith in
    let place : i + 1 ≡ suc i = omega arith in
    append_assoc so_far (denial ∷ []) (denials_from rules (number + (i + 1)) tick from (drop (i + 1) refusals))
    ∙ ap (λ (n : ℕ). so_far ++ denial ∷ denials_from rules n tick from (drop (i + 1) refusals)) later
    ∙ ap (λ (n : ℕ). so_far ++ denial ∷ denials_from rules (number + i + 1) tick from (drop n refusals)) place
    ∙ ap (λ (l : List Denial). so_far ++ l) (one ∙ ap (denials_from rules (number + i) tick from) (sym rest))
    ∙ wording

-- what is asked for the APDU that a message has for the device
pub asks_put : (rules : List Rule) (format : Format) (d : Database) (m : Message) (network : ℕ) (context : Context) (octets : List ℕ)
    → network ≡ device_network d → Some octets ≡ apdu_for network m.npdu → context ≡ context_of format network m
    → message_asks rules format d m ≡ device_asks rules d context octets
asks_put rules format d m network context octets its apdu wording =
    ap (λ (n : ℕ). apdu_asks rules d (context_of format n m) (apdu_for n m.npdu)) (sym its)
    ∙ ap (apdu_asks rules d (context_of format network m)) (sym apdu)
    ∙ ap (λ (x : Context). device_asks rules d x octets) (sym wording)

-- its answer and its write
pub answer_put : (rules : List Rule) (format : Format) (d : Database) (m : Message) (network : ℕ) (context : Context) (octets : List ℕ)
    → network ≡ device_network d → Some octets ≡ apdu_for network m.npdu → context ≡ context_of format network m
    → apdu_answer rules d (context_of format (device_network d) m) (apdu_for (device_network d) m.npdu) ≡ device_answer rules d context octets
answer_put rules format d m network context octets its apdu wording =
    ap (λ (n : ℕ). apdu_answer rules d (context_of format n m) (apdu_for n m.npdu)) (sym its)
    ∙ ap (apdu_answer rules d (context_of format network m)) (sym apdu)
    ∙ ap (λ (x : Context). device_answer rules d x octets) (sym wording)

pub change_put : (rules : List Rule) (format : Format) (d : Database) (m : Message) (network : ℕ) (context : Context) (octets : List ℕ)
    → network ≡ device_network d → Some octets ≡ apdu_for network m.npdu → context ≡ context_of format network m
    → apdu_change rules d (context_of format (device_network d) m) (apdu_for (device_network d) m.npdu) ≡ device_change rules d context octets
change_put rules format d m network context octets its apdu wording =
    ap (λ (n : ℕ). apdu_change rules d (context_of format n m) (apdu_for n m.npdu)) (sym its)
    ∙ ap (apdu_change rules d (context_of format network m)) (sym apdu)
    ∙ ap (λ (x : Context). device_change rules d x octets) (sym wording)

pub no_asks_put : (rules : List Rule) (format : Format) (d : Database) (m : Message) (network : ℕ) → network ≡ device_network d
    → None ≡ apdu_for network m.npdu → message_asks rules format d m ≡ []
no_asks_put rules format d m network its apdu =
    ap (λ (n : ℕ). apdu_asks rules d (context_of format n m) (apdu_for n m.npdu)) (sym its)
    ∙ ap (apdu_asks rules d (context_of format network m)) (sym apdu)

-- what has no refusals has no denials
pub none_of : (rules : List Rule) (number tick : ℕ) (from : Option Origin) (refusals : List Refusal) → refusals ≡ []
    → denials_of rules number tick from refusals ≡ []
none_of rules number tick None refusals none = refl
none_of rules number tick (Some from) refusals none = ap (denials_from rules number tick from) none

-- a denial for each ask of what is received that is denied
pub counted_for : (w : State) (received : Received)
    → length (denials_for w received) ≡ length (denied_of w.rules (asks_for w.rules w.relay w.device received))
counted_for w dropped = refl
counted_for w (managed on from frame) = length_denials w.rules (w.denials + 1) w.ticks (node_origin on from)
    (denied_of w.rules (asks_for w.rules w.relay w.device (managed on from frame)))
counted_for w (unregistered m) = refl
counted_for w (barred m) = length_denials w.rules (w.denials + 1) w.ticks (message_origin m)
    (denied_of w.rules (asks_for w.rules w.relay w.device (barred m)))
counted_for w (message m) = length_denials w.rules (w.denials + 1) w.ticks (message_origin m)
    (denied_of w.rules (asks_for w.rules w.relay w.device (message m)))

-- whether or not a message is kept out, it comes from who it claims to come from
pub origin_admitted : (rules : List Rule) (relay : Relay) (m : Message) → origin (admit rules relay (message m)) ≡ Some (message_origin m)
origin_admitted rules relay m = by (admits rules relay m)
  where
    by : (b : Bool) → origin (if b then message m else barred m) ≡ Some (message_origin m)
    by true = refl
    by false = refl

-- the record of what the code takes unjudged is that of what it is received as
judged_denials : (rules : List Rule) (number tick : ℕ) (relay : Relay) (d : Database) (m : Message) (refusals : List Refusal)
    (heard strange : Bool)
    → heard ≡ accepts m.here m.from m.frame → strange ≡ is_unregistered m.here m.from m.frame
    → refusals ≡ denied_of rules (asks_for rules relay d (admit rules relay (judged m)))
    → denials_of rules number tick (Some (message_origin m)) refusals
    ≡ denials_of rules number tick (origin (admit rules relay (judged m))) refusals
judged_denials rules number tick relay d m refusals false strange h s are =
    let out : judged m ≡ dropped = rw (← h) refl in
    let none : refusals ≡ [] = are ∙ ap (λ (r : Received). denied_of rules (asks_for rules relay d (admit rules relay r))) out in
    none_of rules number tick (Some (message_origin m)) refusals none
    ∙ sym (none_of rules number tick (origin (admit rules relay (judged m))) refusals none)
judged_denials rules number tick relay d m refusals true true h s are =
    let out : judged m ≡ unregistered m = rw (← h, ← s) refl in
    let none : refusals ≡ [] = are ∙ ap (λ (r : Received). denied_of rules (asks_for rules relay d (admit rules relay r))) out in
    none_of rules number tick (Some (message_origin m)) refusals none
    ∙ sym (none_of rules number tick (origin (admit rules relay (judged m))) refusals none)
judged_denials rules number tick relay d m refusals true false h s are =
    let out : judged m ≡ message m = rw (← h, ← s) refl in
    ap (λ (from : Option Origin). denials_of rules number tick from refusals)
    (sym (ap (λ (r : Received). origin (admit rules relay r)) out ∙ origin_admitted rules relay m))

pub lent_denials : (rules : List Rule) (number tick : ℕ) (relay : Relay) (d : Database) (received : LentReceived) (refusals : List Refusal)
    → refusals ≡ denied_of rules (asks_for rules relay d (admit rules relay (received_view received)))
    → denials_of rules number tick (origin_of received) refusals
    ≡ denials_of rules number tick (origin (admit rules relay (received_view received))) refusals
lent_denials rules number tick relay d (lent.Dropped why) refusals are = refl
lent_denials rules number tick relay d (lent.Managed m) refusals are = refl
lent_denials rules number tick relay d (lent.Message m) refusals are =
    let view = message_view m in
    judged_denials rules number tick relay d view refusals (accepts view.here view.from view.frame)
    (is_unregistered view.here view.from view.frame) refl refl are

-- what is asked of what is received is what the event asks
pub asks_received : (w : State) (e : Event) (received : Received) → received ≡ receive w e
    → asks w e ≡ asks_for w.rules w.relay w.device received
unfolding asks
asks_received w e received is = ap (asks_for w.rules w.relay w.device) (sym is)

-- an event that asks nothing is denied nothing
pub no_denials : (w : State) (e : Event) → asks w e ≡ [] → denials_at w e ≡ []
unfolding asks denials_at
no_denials w e none =
    none_of w.rules (w.denials + 1) w.ticks (origin (receive w e)) (denied_of w.rules (asks_for w.rules w.relay w.device (receive w e)))
    (ap (denied_of w.rules) none)

-- the denials of what is received are those of the event
pub denials_received : (w : State) (e : Event) (received : Received) → received ≡ receive w e
    → length (denials_for w received) ≡ length (denials_at w e)
unfolding denials_at
denials_received w e received is = ap (λ (r : Received). length (denials_for w r)) is

-- the record of what the code was refused is that of the denials
pub recorded : (w : State) (received : LentReceived) (rules : List Rule) (slice refusals : List Refusal) (denials : List Denial)
    → rules ≡ w.rules → slice ≡ refusals → refusals ≡ denied_of w.rules (asks_for w.rules w.relay w.device (admitted_view w received))
    → denials ≡ denials_of rules (w.denials + 1) w.ticks (origin_of received) slice → denials ≡ denials_for w (admitted_view w received)
recorded w received rules slice refusals denials same lent are is =
    let number = w.denials + 1 in
    is ∙ ap (λ (r : List Rule). denials_of r number w.ticks (origin_of received) slice) same
    ∙ ap (denials_of w.rules number w.ticks (origin_of received)) lent
    ∙ lent_denials w.rules number w.ticks w.relay w.device received refusals are
    ∙ ap (denials_of w.rules number w.ticks (origin (admitted_view w received))) are
