-- What is heard comes on one of the ports: from its own network, or from none of the direct ones.
use Rattle.std.proofs.Common.{◌≡◌, ◌∙◌, ◌⊎◌, inl, inr, sym, ap, refl, subst, ℕ, ◌+◌, ◌-◌, ◌≤◌, Bool, true, false, List, [], ◌∷◌, length, Option, Some, None, Result, Ok, Err, arith, nat_le, get_or}
use Rattle.std.specs.Prelude.{◌==◌, not, if◌then◌else◌, slice_get}
use Rattle.std.specs.List.{AllByRecursion}
use Rattle.std.proofs.lemmas.List.Elements.{All-from_recursion}
use Rattle.std.proofs.lemmas.Option.{get_or_from_slice_get, slice_get_within}
use Rattle.gw_addr.specs.declared.bip.BipAddr.{BipAddr}
use Rattle.gw_frames.specs.declared.bvll.fault.BvllFault.{BvllFault}
use Rattle.gw_frames.specs.bvll.Bvll.{Message as Frame}
use Rattle.gw_frames.specs.bvll.Reading.{bvll_at}
use Rattle.gw_frames.specs.declared.npdu.fault.NpduFault.{NpduFault}
use Rattle.gw_frames.specs.npdu.Npdu.{Address, Fields}
use Rattle.gw_frames.specs.npdu.Reading.{npdu_at}
use Rattle.gw_configuration.specs.declared.port.Port.{Port as ConfiguredPort}
use Rattle.gw_relay.specs.Cast.{accepts, is_unregistered}
use Rattle.gw_relay.specs.Claim.{claimed, link_source}
use Rattle.gw_relay.specs.Entry.{admits}
use Rattle.gw_relay.specs.History.{Acts as PortActs}
use Rattle.gw_relay.specs.History.{all_after, ports_from}
use Rattle.gw_relay.specs.Initial.{port_of}
use Rattle.gw_relay.specs.Message.{Message, message_of}
use Rattle.gw_relay.specs.State.{Relay, port_at}
use Rattle.gw_relay.specs.declared.port.Port.{Port}
use Rattle.gw_relay.specs.declared.port.PortState.{PortState}
use Rattle.gw_rules.specs.declared.rule.Rule.{Rule}
use Rattle.gw_rules.proofs.EachAsk.{each_weaker}
use Rattle.gw_script.specs.Event.{Event, Datagram, Tick}
use Rattle.gw_core.specs.Receive.{Received, admit, barred, claims_direct, comes_in, dropped, is_direct, managed, manages, message, npdu_of, payload_of, receive, receive_datagram, receive_frame, receive_npdu, receive_on, unregistered}
use Rattle.gw_core.specs.State.{State, device_network}

-- ---- the ports

-- one of the configured ports, with its number
abbrev pub InPorts : ℕ → List ConfiguredPort → Port → Type 0
InPorts number [] port = ⊥
InPorts number (p ∷ ports) port = (port ≡ port_of number p) ⊎ InPorts (number + 1) ports port

pub all_ports : (number : ℕ) (ports : List ConfiguredPort) (acts : List PortActs)
    → AllByRecursion (λ state. InPorts number ports state.port) (all_after (ports_from number ports) acts)
all_ports number [] acts = tt
all_ports number (p ∷ ports) [] = tt
all_ports number (p ∷ ports) (a ∷ acts) = (
  inl refl,
  each_weaker (λ (state : PortState). InPorts (number + 1) ports state.port) (λ (state : PortState). InPorts number (p ∷ ports) state.port)
      (λ state there. inr there) (all_after (ports_from (number + 1) ports) acts) (all_ports (number + 1) ports acts),
)

pub port_bounds : (number : ℕ) (ports : List ConfiguredPort) (port : Port) → InPorts number ports port
    → (number ≤ port.number) × (port.number + 1 ≤ number + length ports)
port_bounds number [] port there = absurd there
port_bounds number (p ∷ ports) port (inl is) =
    let at : port.number ≡ number = ap (λ (q : Port). q.number) is in
    (omega (arith, at), omega (arith, at))
port_bounds number (p ∷ ports) port (inr later) =
    let next = port_bounds (number + 1) ports port later in
    let low = next.0 in
    let high = next.1 in
    (omega arith, omega arith)

-- ---- what is received

-- of one of the ports; and from its network if it names no source, else from none of the direct ones
pub record IsHeard (states : List PortState) (device : ℕ) (Is : PortState → Type 0) (m : Message) : Type 0 where
  pub port : Is m.here
  pub claim : ((m.npdu.source ≡ None) × (m.claim.net ≡ m.here.port.network)) ⊎ (is_direct states device m.claim.net ≡ false)

abbrev pub Heard : List PortState → ℕ → (PortState → Type 0) → Received → Type 0
Heard states device Is dropped = Unit {0}
Heard states device Is (managed on from frame) = Is on
Heard states device Is (unregistered m) = Unit {0}
Heard states device Is (barred m) = IsHeard states device Is m
Heard states device Is (message m) = IsHeard states device Is m

undirect : (states : List PortState) (device : ℕ) (octets : List ℕ) (npdu : Fields) → npdu_of states device octets ≡ Some npdu
    → claims_direct states device npdu.source ≡ false
unfolding npdu_of
undirect states device octets npdu is = outer (nat_le (length octets) 1497) (npdu_at octets) is
  where
    inner : (b : Bool) (f : Fields) → claims_direct states device f.source ≡ b → (if b then None else Some f) ≡ Some npdu
        → claims_direct states device npdu.source ≡ false
    inner true f c e = absurd cc
    inner false f c e =
        let same : f ≡ npdu = cc in
        subst (λ (g : Fields). claims_direct states device g.source ≡ false) same c

    outer : (b : Bool) (r : Result Fields NpduFault) → (if b then (elim r [
      | Ok npdu ↦ if claims_direct states device npdu.source then None else Some npdu
      | Err fault ↦ None
    ]) else None) ≡ Some npdu → claims_direct states device npdu.source ≡ false
    outer true (Ok f) e = inner (claims_direct states device f.source) f refl e
    outer true (Err fault) e = absurd cc
    outer false r e = absurd cc

claim_by : (states : List PortState) (device : ℕ) (on : PortState) (from : BipAddr) (frame : Frame) (npdu : Fields) (source : Option Address)
    → npdu.source ≡ source → claims_direct states device source ≡ false
    → ((npdu.source ≡ None) × ((claimed on.port.network (link_source from frame) npdu).net ≡ on.port.network))
    ⊎ (is_direct states device (claimed on.port.network (link_source from frame) npdu).net ≡ false)
claim_by states device on from frame npdu None is none = inl (is, rw is refl)
claim_by states device on from frame npdu (Some s) is none = inr (rw is none)

heard_if : (states : List PortState) (device : ℕ) (Is : PortState → Type 0) (b : Bool) (m : Message) → IsHeard states device Is m
    → Heard states device Is (if b then unregistered m else message m)
heard_if states device Is true m is = tt
heard_if states device Is false m is = is

heard_npdu : (states : List PortState) (device : ℕ) (Is : PortState → Type 0) (on : PortState) (from : BipAddr) (frame : Frame) (octets : List ℕ)
    → Is on → Heard states device Is (receive_npdu states device on from frame octets)
heard_npdu states device Is on from frame octets is = by (npdu_of states device octets) (undirect states device octets)
  where
    by : (npdu : Option Fields) → ((f : Fields) → npdu ≡ Some f → claims_direct states device f.source ≡ false) → Heard states device Is (elim npdu [
      | Some npdu ↦
          if is_unregistered on from frame then unregistered (message_of on from frame npdu)
          else message (message_of on from frame npdu)
      | None ↦ dropped
    ])
    by None none = tt
    by (Some npdu) none =
        heard_if states device Is (is_unregistered on from frame) (message_of on from frame npdu) (record {
          port = is;
          claim = claim_by states device on from frame npdu npdu.source refl (none npdu refl);
        })

heard_frame : (states : List PortState) (device : ℕ) (Is : PortState → Type 0) (on : PortState) (from : BipAddr) (frame : Frame) → Is on
    → Heard states device Is (receive_frame states device on from frame)
heard_frame states device Is on from frame is = by (manages frame) (accepts on from frame) (payload_of frame)
  where
    by : (manages heard : Bool) (payload : Option (List ℕ)) → Heard states device Is (if manages then managed on from frame
        else if not heard then dropped
        else (elim payload [
          | Some octets ↦ receive_npdu states device on from frame octets
          | None ↦ dropped
        ]))
    by true heard payload = is
    by false false payload = tt
    by false true None = tt
    by false true (Some octets) = heard_npdu states device Is on from frame octets is

heard_datagram : (states : List PortState) (device : ℕ) (Is : PortState → Type 0) (on : PortState) (from : BipAddr) (octets : List ℕ) → Is on
    → Heard states device Is (receive_datagram states device on from octets)
heard_datagram states device Is on from octets is = by (comes_in on.port.address from octets) (bvll_at octets)
  where
    by : (comes : Bool) (frame : Result Frame BvllFault) → Heard states device Is (if comes then (elim frame [
      | Ok frame ↦ receive_frame states device on from frame
      | Err fault ↦ dropped
    ]) else dropped)
    by false frame = tt
    by true (Err fault) = tt
    by true (Ok frame) = heard_frame states device Is on from frame is

-- a state that is found is one of the states
found_link : (states : List PortState) (Is : PortState → Type 0) (number : ℕ) (on : PortState) (b : Bool) → (number == 0) ≡ b
    → port_at states number ≡ Some on → AllByRecursion (λ state. Is state) states → Is on
found_link states Is number on true e there each =
    let gone : None ≡ Some on = sym (rw e refl) ∙ there in
    absurd cc
found_link states Is number on false e there each =
    let at : slice_get states (number - 1) ≡ Some on = sym (rw e refl) ∙ there in
    let same : get_or states (number - 1) on ≡ on = get_or_from_slice_get states (number - 1) on on at in
    let all = All-from_recursion (λ (state : PortState). Is state) states each in
    subst (λ (state : PortState). Is state) same (all (number - 1) on (slice_get_within states (number - 1) on at))

heard_on : (states : List PortState) (device : ℕ) (Is : PortState → Type 0) (number : ℕ) (from : BipAddr) (octets : List ℕ)
    → AllByRecursion (λ state. Is state) states → Heard states device Is (receive_on states device number from octets)
heard_on states device Is number from octets each =
    by (port_at states number) (λ on there. found_link states Is number on (number == 0) refl there each)
  where
    by : (on : Option PortState) → ((state : PortState) → on ≡ Some state → Is state) → Heard states device Is (elim on [
      | Some on ↦ receive_datagram states device on from octets
      | None ↦ dropped
    ])
    by None is = tt
    by (Some on) is = heard_datagram states device Is on from octets (is on refl)

heard_admitted : (rules : List Rule) (relay : Relay) (states : List PortState) (device : ℕ) (Is : PortState → Type 0) (received : Received)
    → Heard states device Is received → Heard states device Is (admit rules relay received)
heard_admitted rules relay states device Is dropped is = tt
heard_admitted rules relay states device Is (managed on from frame) is = is
heard_admitted rules relay states device Is (unregistered m) is = tt
heard_admitted rules relay states device Is (barred m) is = is
heard_admitted rules relay states device Is (message m) is = by (admits rules relay m)
  where
    by : (b : Bool) → Heard states device Is (if b then message m else barred m)
    by true = is
    by false = is

pub heard_at : (w : State) (Is : PortState → Type 0) (e : Event) → AllByRecursion (λ state. Is state) w.relay.ports
    → Heard w.relay.ports (device_network w.device) Is (receive w e)
unfolding receive
heard_at w Is (Datagram port from octets) each =
    heard_admitted w.rules w.relay w.relay.ports (device_network w.device) Is _
    (heard_on w.relay.ports (device_network w.device) Is port from octets each)
heard_at w Is Tick each = tt
