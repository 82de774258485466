-- A broadcast by the gateway, by the length of its NPDU.
use Rattle.std.proofs.Common.{◌≡◌, ◌∙◌, sym, ap, refl, ℕ, ◌≤◌, List, [], ◌∷◌, ◌++◌, length, arith, Option}
use Rattle.std.specs.Option.{option_map_or}
use Rattle.std.proofs.lemmas.Bool.{le-leb}
use Rattle.gw_addr.specs.declared.bip.BipAddr.{BipAddr}
use Rattle.gw_frames.specs.bvll.Bvll.{encoding, forwarded, original_broadcast}
use Rattle.gw_relay.specs.Cast.{devices, managers, spread}
use Rattle.gw_relay.specs.Sends.{Batch, Sending, sendings, sendings_of, sent}
use Rattle.gw_relay.specs.declared.port.PortState.{PortState}

pub spread_short : (state : PortState) (npdu : List ℕ) → length npdu ≤ 1497
    → spread state npdu ≡ sent state.port.number (state.port.broadcast ∷ []) (original_broadcast npdu)
    ++ sent state.port.number (managers state ++ devices state) (forwarded state.port.address npdu)
unfolding spread
spread_short state npdu short = rw (le-leb (length npdu) 1497 short) refl

-- a broadcast on the subnet is short enough
sent_short : (port : ℕ) (to : BipAddr) (npdu : List ℕ) → length npdu ≤ 1497
    → sendings port (to ∷ []) (encoding (original_broadcast npdu)) ≡ sent port (to ∷ []) (original_broadcast npdu)
sent_short port to npdu short = rw (le-leb (length (encoding (original_broadcast npdu))) 1507 (omega (arith, short))) refl

-- the message on the subnet, and after it the one to peers and foreign devices, whose octets are lent by the first
pub spread_both : (state : PortState) (npdu octets lent : List ℕ) (first : Batch) (second : Option Batch) → length npdu ≤ 1497
    → first.port ≡ state.port.number → first.targets ≡ state.port.broadcast ∷ [] → first.octets ≡ octets
    → octets ≡ encoding (original_broadcast npdu) → lent ≡ npdu
    → option_map_or sendings_of second [] ≡ sent state.port.number (managers state ++ devices state) (forwarded state.port.address lent)
    → sendings_of first ++ option_map_or sendings_of second [] ≡ spread state npdu
spread_both state npdu octets lent first second short port targets held made same others =
    let all = managers state ++ devices state in
    let elsewhere = sent state.port.number all (forwarded state.port.address npdu) in
    let moved = others ∙ ap (λ (n : List ℕ). sent state.port.number all (forwarded state.port.address n)) same in
    rw (port, targets, held, made, moved)
    (ap (λ (subnet : List Sending). subnet ++ elsewhere) (sent_short state.port.number state.port.broadcast npdu short)
    ∙ sym (spread_short state npdu short))
