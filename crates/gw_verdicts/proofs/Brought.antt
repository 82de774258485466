-- What a datagram brings: a message comes from an address, and what it names was read of octets.
use Rattle.std.proofs.Common.{◌≡◌, refl, subst, ℕ, Bool, true, false, List, length, nat_le, Option, Some, None, Result, Ok, Err}
use Rattle.std.specs.Prelude.{IfSome, not, if◌then◌else◌}
use Rattle.gw_addr.specs.declared.bip.BipAddr.{BipAddr}
use Rattle.gw_addr.specs.Address.{IsAddress}
use Rattle.gw_addr.specs.Reading.{AreOctets}
use Rattle.gw_frames.specs.declared.bvll.fault.BvllFault.{BvllFault}
use Rattle.gw_frames.specs.bvll.Bvll.{HasFields}
use Rattle.gw_frames.specs.bvll.Bvll.{Message as Frame}
use Rattle.gw_frames.specs.bvll.Bvll as bvll
use Rattle.gw_frames.specs.bvll.Reading.{bvll_at}
use Rattle.gw_frames.proofs.bvll_lemmas.Messages.{reads_as}
use Rattle.gw_frames.specs.declared.npdu.fault.NpduFault.{NpduFault}
use Rattle.gw_frames.specs.npdu.Npdu.{Fields}
use Rattle.gw_frames.specs.npdu.Reading.{npdu_at}
use Rattle.gw_relay.specs.Cast.{accepts, is_unregistered}
use Rattle.gw_relay.specs.Claim.{claimed, link_source}
use Rattle.gw_relay.specs.Entry.{admits}
use Rattle.gw_relay.specs.Message.{Message, message_of}
use Rattle.gw_relay.specs.State.{Relay, port_at}
use Rattle.gw_relay.specs.declared.port.PortState.{PortState}
use Rattle.gw_rules.specs.declared.rule.Rule.{Rule}
use Rattle.gw_script.specs.Event.{Event, Datagram, Tick}
use Rattle.gw_core.specs.Receive.{Received, admit, barred, claims_direct, comes_in, dropped, managed, manages, message, npdu_of, payload_of, receive, receive_datagram, receive_frame, receive_npdu, receive_on, unregistered}
use Rattle.gw_core.specs.State.{State, device_network}
use Rattle.gw_verdicts.specs.Laws.{IsCarried}
use Rattle.gw_verdicts.proofs.Octets.{IsRead, npdu_read}

-- a message whose sender and link source are addresses, and whose NPDU was read of octets
pub record IsBrought (m : Message) : Type 0 where
  pub from : IsAddress m.from
  pub link : IsAddress m.link
  pub claim : m.claim ≡ claimed m.here.port.network m.link m.npdu
  pub npdu : IsRead m.npdu

abbrev pub Brought : Received → Type 0
Brought dropped = Unit {0}
Brought (managed on from frame) = IsAddress from × HasFields frame
Brought (unregistered m) = Unit {0}
Brought (barred m) = IsBrought m
Brought (message m) = IsBrought m

-- ---- a frame

link_address : (from : BipAddr) (frame : Frame) → IsAddress from → HasFields frame → IsAddress (link_source from frame)
link_address from (bvll.forwarded originator npdu) is fits = fits.0
link_address from (bvll.result_code code) is fits = is
link_address from (bvll.write_bdt entries) is fits = is
link_address from bvll.read_bdt is fits = is
link_address from (bvll.read_bdt_ack entries) is fits = is
link_address from (bvll.register time_to_live) is fits = is
link_address from bvll.read_fdt is fits = is
link_address from (bvll.read_fdt_ack entries) is fits = is
link_address from (bvll.delete address) is fits = is
link_address from (bvll.distribute npdu) is fits = is
link_address from (bvll.original_unicast npdu) is fits = is
link_address from (bvll.original_broadcast npdu) is fits = is

payload_fits : (frame : Frame) → HasFields frame → IfSome (payload_of frame) AreOctets
payload_fits (bvll.forwarded originator npdu) fits = fits.1
payload_fits (bvll.result_code code) fits = tt
payload_fits (bvll.write_bdt entries) fits = tt
payload_fits bvll.read_bdt fits = tt
payload_fits (bvll.read_bdt_ack entries) fits = tt
payload_fits (bvll.register time_to_live) fits = tt
payload_fits bvll.read_fdt fits = tt
payload_fits (bvll.read_fdt_ack entries) fits = tt
payload_fits (bvll.delete address) fits = tt
payload_fits (bvll.distribute npdu) fits = fits
payload_fits (bvll.original_unicast npdu) fits = fits
payload_fits (bvll.original_broadcast npdu) fits = fits

-- ---- an NPDU

read_of : (ports : List PortState) (device : ℕ) (octets : List ℕ) (npdu : Fields) → AreOctets octets → npdu_of ports device octets ≡ Some npdu
    → IsRead npdu
unfolding npdu_of
read_of ports device octets npdu fits is = outer (nat_le (length octets) 1497) (npdu_at octets) (λ f e. npdu_read octets f fits e) is
  where
    inner : (b : Bool) (f : Fields) → IsRead f → (if b then None else Some f) ≡ Some npdu → IsRead npdu
    inner true f read e = absurd cc
    inner false f read e =
        let same : f ≡ npdu = cc in
        subst IsRead same read

    outer : (b : Bool) (r : Result Fields NpduFault) → ((f : Fields) → r ≡ Ok f → IsRead f) → (if b then (elim r [
      | Ok npdu ↦ if claims_direct ports device npdu.source then None else Some npdu
      | Err fault ↦ None
    ]) else None) ≡ Some npdu → IsRead npdu
    outer true (Ok f) so e = inner (claims_direct ports device f.source) f (so f refl) e
    outer true (Err fault) so e = absurd cc
    outer false r so e = absurd cc

brought_if : (b : Bool) (m : Message) → IsBrought m → Brought (if b then unregistered m else message m)
brought_if true m is = tt
brought_if false m is = is

brought_npdu : (ports : List PortState) (device : ℕ) (on : PortState) (from : BipAddr) (frame : Frame) (octets : List ℕ) → IsAddress from
    → HasFields frame → AreOctets octets → Brought (receive_npdu ports device on from frame octets)
brought_npdu ports device on from frame octets is fits text = by (npdu_of ports device octets) (λ f e. read_of ports device octets f text e)
  where
    by : (npdu : Option Fields) → ((f : Fields) → npdu ≡ Some f → IsRead f) → Brought (elim npdu [
      | Some npdu ↦
          if is_unregistered on from frame then unregistered (message_of on from frame npdu)
          else message (message_of on from frame npdu)
      | None ↦ dropped
    ])
    by None read = tt
    by (Some npdu) read =
        brought_if (is_unregistered on from frame) (message_of on from frame npdu) (record {
          from = is;
          link = link_address from frame is fits;
          claim = refl;
          npdu = read npdu refl;
        })

brought_frame : (ports : List PortState) (device : ℕ) (on : PortState) (from : BipAddr) (frame : Frame) → IsAddress from → HasFields frame
    → Brought (receive_frame ports device on from frame)
brought_frame ports device on from frame is fits = by (manages frame) (accepts on from frame) (payload_of frame) (payload_fits frame fits)
  where
    by : (manages heard : Bool) (payload : Option (List ℕ)) → IfSome payload AreOctets → Brought (if manages then managed on from frame
        else if not heard then dropped
        else (elim payload [
          | Some octets ↦ receive_npdu ports device on from frame octets
          | None ↦ dropped
        ]))
    by true heard payload text = (is, fits)
    by false false payload text = tt
    by false true None text = tt
    by false true (Some octets) text = brought_npdu ports device on from frame octets is fits text

brought_datagram : (ports : List PortState) (device : ℕ) (on : PortState) (from : BipAddr) (octets : List ℕ) → IsAddress from → AreOctets octets
    → Brought (receive_datagram ports device on from octets)
brought_datagram ports device on from octets is text =
    by (comes_in on.port.address from octets) (bvll_at octets) (λ frame e. ((reads_as octets frame text).0 e).valid.fields)
  where
    by : (comes : Bool) (frame : Result Frame BvllFault) → ((f : Frame) → frame ≡ Ok f → HasFields f) → Brought (if comes then (elim frame [
      | Ok frame ↦ receive_frame ports device on from frame
      | Err fault ↦ dropped
    ]) else dropped)
    by false frame fits = tt
    by true (Err fault) fits = tt
    by true (Ok frame) fits = brought_frame ports device on from frame is (fits frame refl)

brought_on : (ports : List PortState) (device number : ℕ) (from : BipAddr) (octets : List ℕ) → IsAddress from → AreOctets octets
    → Brought (receive_on ports device number from octets)
brought_on ports device number from octets is text = by (port_at ports number)
  where
    by : (on : Option PortState) → Brought (elim on [
      | Some on ↦ receive_datagram ports device on from octets
      | None ↦ dropped
    ])
    by None = tt
    by (Some on) = brought_datagram ports device on from octets is text

brought_admitted : (rules : List Rule) (relay : Relay) (received : Received) → Brought received → Brought (admit rules relay received)
brought_admitted rules relay dropped is = tt
brought_admitted rules relay (managed on from frame) is = is
brought_admitted rules relay (unregistered m) is = tt
brought_admitted rules relay (barred m) is = is
brought_admitted rules relay (message m) is = by (admits rules relay m)
  where
    by : (b : Bool) → Brought (if b then message m else barred m)
    by true = is
    by false = is

pub brought_at : (w : State) (e : Event) → IsCarried e → Brought (receive w e)
unfolding receive
brought_at w (Datagram port from octets) is =
    brought_admitted w.rules w.relay _ (brought_on w.relay.ports (device_network w.device) port from octets is.0 is.1)
brought_at w Tick is = tt
