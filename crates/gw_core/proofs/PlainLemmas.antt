-- A unicast with an APDU: routing and the device alone concern it.
use Rattle.std.proofs.Common.{◌≡◌, ◌∙◌, ℕ, ap, refl, Bool, true, false, ◌&&◌, List, [], ◌++◌, None}
use Rattle.std.proofs.lemmas.List.{append-nil}
use Rattle.gw_frames.specs.bvll.Bvll.{Message as Frame}
use Rattle.gw_frames.specs.bvll.Bvll as bvll
use Rattle.gw_frames.specs.npdu.Npdu.{Payload, apdu, message}
use Rattle.gw_frames.specs.declared.npdu.kind.MessageKind.{MessageKind}
use Rattle.gw_frames.specs.declared.npdu.kind.MessageKind.TheVariants.{IAmRouterToNetwork, WhatIsNetworkNumber, WhoIsRouterToNetwork}
use Rattle.gw_relay.specs.Cast.{accepts, goes_on, is_carried, is_unregistered}
use Rattle.gw_relay.specs.Manage.{manage_asks, manage_change, manage_sends, manage_steps, onward_sends}
use Rattle.gw_relay.specs.Message.{Message}
use Rattle.gw_relay.specs.Route.{is_kind, route_asks, route_sends}
use Rattle.gw_relay.specs.Sends.{Sending}
use Rattle.gw_relay.specs.State.{Relay, is_manager}
use Rattle.gw_relay.specs.Steps.{Step, asks_of, sends_of}
use Rattle.gw_relay.proofs.Asking.{quiet_asks, quiet_sends}
use Rattle.gw_relay.proofs.Learning.{none_onward}
use Rattle.gw_rules.specs.Ask.{Ask}
use Rattle.gw_rules.specs.declared.rule.Rule.{Rule}
use Rattle.gw_core.specs.internal.Respond.{is_apdu, is_plain, is_unicast, passed_asks, passed_change, passed_sends}
use Rattle.gw_core.proofs.RespondLemmas.{asks_on, change_on, sends_on}

both : (a b : Bool) → (a && b) ≡ true → (a ≡ true) × (b ≡ true)
both true true e = (refl, refl)
both true false e = absurd cc
both false b e = absurd cc

-- what the frame is
record IsUnicast (frame : Frame) : Type 0 where
  octets : List ℕ
  is : frame ≡ bvll.original_unicast octets

unicast_of : (frame : Frame) → is_unicast frame ≡ true → IsUnicast frame
unicast_of (bvll.result_code code) e = absurd cc
unicast_of (bvll.write_bdt entries) e = absurd cc
unicast_of bvll.read_bdt e = absurd cc
unicast_of (bvll.read_bdt_ack entries) e = absurd cc
unicast_of (bvll.forwarded originator octets) e = absurd cc
unicast_of (bvll.register time_to_live) e = absurd cc
unicast_of bvll.read_fdt e = absurd cc
unicast_of (bvll.read_fdt_ack entries) e = absurd cc
unicast_of (bvll.delete address) e = absurd cc
unicast_of (bvll.distribute octets) e = absurd cc
unicast_of (bvll.original_unicast octets) e = record { octets = octets; is = refl }
unicast_of (bvll.original_broadcast octets) e = absurd cc

-- an APDU is of no type of network layer messages
no_kind : (payload : Payload) (kind : MessageKind) → is_apdu payload ≡ true → is_kind kind payload ≡ false
no_kind (apdu octets) kind e = refl
no_kind (message m) kind e = absurd cc

pub no_steps : (relay : Relay) (m : Message) → is_apdu m.npdu.payload ≡ true → manage_steps relay m ≡ []
no_steps relay m is =
    rw (no_kind m.npdu.payload IAmRouterToNetwork is, no_kind m.npdu.payload WhoIsRouterToNetwork is, no_kind m.npdu.payload WhatIsNetworkNumber is) refl

pub nothing_learned : (rules : List Rule) (relay : Relay) (m : Message) → is_apdu m.npdu.payload ≡ true → manage_change rules relay m ≡ None
nothing_learned rules relay m is = rw (no_kind m.npdu.payload IAmRouterToNetwork is) refl

-- what is done about such a message but for the device is what routing does
pub record PassesBy (rules : List Rule) (relay : Relay) (m : Message) : Type 0 where
  pub goes : goes_on m.here m.from m.frame ≡ true
  pub asks : passed_asks relay m ≡ route_asks relay m
  pub sends : passed_sends rules relay m ≡ route_sends rules relay m
  pub change : passed_change rules relay m ≡ None

and_false : (b : Bool) → (b && false) ≡ false
and_false true = refl
and_false false = refl

-- an APDU is no router's message, so nothing is announced of it
pub unannounced : (rules : List Rule) (relay : Relay) (m : Message) → is_apdu m.npdu.payload ≡ true → onward_sends rules relay m ≡ []
unannounced rules relay m is = none_onward rules relay m (rw (no_kind m.npdu.payload IAmRouterToNetwork is) refl)

pub passes_by : (rules : List Rule) (relay : Relay) (m : Message) → is_plain m ≡ true → PassesBy rules relay m
passes_by rules relay m plain =
    let parts = both (is_unicast m.frame) (is_apdu m.npdu.payload) plain in
    let frame = unicast_of m.frame parts.0 in
    let heard : accepts m.here m.from m.frame ≡ true = ap (accepts m.here m.from) frame.is in
    let known : is_unregistered m.here m.from m.frame ≡ false = ap (is_unregistered m.here m.from) frame.is in
    let quiet : is_carried m.here m.frame ≡ false = ap (is_carried m.here) frame.is ∙ and_false (is_manager m.here.port) in
    let on : goes_on m.here m.from m.frame ≡ true = ap (goes_on m.here m.from) frame.is in
    let none = no_steps relay m parts.1 in
    record {
      goes = on;
      asks = asks_on relay m on ∙ ap (λ (l : List Ask). l ++ (route_asks relay m ++ manage_asks relay m)) (quiet_asks relay.format m heard known quiet)
          ∙ ap (λ (steps : List Step). route_asks relay m ++ asks_of steps) none ∙ append-nil (route_asks relay m);
      sends = sends_on rules relay m on
          ∙ ap (λ (l : List Sending). l ++ (route_sends rules relay m ++ manage_sends rules relay m)) (quiet_sends rules relay.format m heard known quiet)
          ∙ ap (λ (sends : List Sending). route_sends rules relay m ++ (sends_of rules (manage_steps relay m) ++ sends)) (unannounced rules relay m parts.1)
          ∙ ap (λ (steps : List Step). route_sends rules relay m ++ (sends_of rules steps ++ [])) none ∙ append-nil (route_sends rules relay m);
      change = change_on rules relay m on ∙ nothing_learned rules relay m parts.1;
    }
