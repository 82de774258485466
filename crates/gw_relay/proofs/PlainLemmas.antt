-- Where no port has another broadcast manager beside it and nothing is announced, each part is as it was before.
use Rattle.std.proofs.Common.{◌≡◌, ◌∙◌, ap, refl, Bool, true, false, ◌&&◌, List, [], ◌++◌, map, append-nil, Option, Some, None}
use Rattle.std.specs.Prelude.{if◌then◌else◌}
use Rattle.std.specs.List.{list_all}
use Rattle.gw_addr.specs.declared.bip.BipAddr.{BipAddr}
use Rattle.gw_frames.specs.bvll.Bvll.{Message as Frame}
use Rattle.gw_rules.specs.Ask.{Ask}
use Rattle.gw_rules.specs.RuleList.{allows}
use Rattle.gw_rules.specs.declared.format.Format.{Format}
use Rattle.gw_rules.specs.declared.rule.Rule.{Rule}
use Rattle.gw_relay.specs.Asks.{link_asks}
use Rattle.gw_relay.specs.Cast.{cast_asks, cast_response, cast_sends}
use Rattle.gw_relay.specs.Link.{answer_to, change_of, granted, is_granted, link_answer, link_change, link_grants, refused}
use Rattle.gw_relay.specs.Manage.{manage_asks, manage_change, manage_steps, onward_sends}
use Rattle.gw_relay.specs.Message.{Message}
use Rattle.gw_relay.specs.Neighbours.{PlainBroadcasts, PlainNetworkMessages, PlainTables}
use Rattle.gw_relay.specs.Plain.{plain_cast_response, plain_link_asks, plain_link_grants}
use Rattle.gw_relay.specs.Sends.{Sending}
use Rattle.gw_relay.specs.State.{Relay, is_manager}
use Rattle.gw_relay.specs.Steps.{sends_of}
use Rattle.gw_relay.specs.declared.port.Port.{Port}
use Rattle.gw_relay.specs.declared.port.PortState.{PortState}
use Rattle.gw_relay.proofs.Asking.{placed}

-- ---- tables

asks_plain : (format : Format) (port : Port) (from : BipAddr) (frame : Frame) → is_manager port ≡ true
    → link_asks format port from frame ≡ plain_link_asks format port from frame
asks_plain format port from frame manager = rw manager refl

grants_plain : (rules : List Rule) (format : Format) (on : PortState) (from : BipAddr) (frame : Frame) → is_manager on.port ≡ true
    → link_grants rules format on from frame ≡ plain_link_grants rules format on from frame
grants_plain rules format on from frame manager =
    ap (λ (p : Bool). p && (list_all (allows rules) (link_asks format on.port from frame) && is_granted on from frame)) (placed on.port frame manager)
    ∙ ap (λ (asks : List Ask). list_all (allows rules) asks && is_granted on from frame) (asks_plain format on.port from frame manager)

pub plain_tables : PlainTables
unfolding link_answer link_change
plain_tables rules format on from frame manager = λ j. record {
  asks = asks_plain format on.port from frame manager j;
  sends = map (answer_to on.port from)
      (if grants_plain rules format on from frame manager j then granted on frame else refused frame);
  change = if grants_plain rules format on from frame manager j then change_of on.port from frame else None;
}

-- ---- broadcasts

-- a message on a port that has this broadcast manager beside it, if there is one
beside : Option BipAddr → Message → Message
beside bbmd m = record m { here = record m.here { port = record m.here.port { bbmd = bbmd } } }

plain_beside : (bbmd : Option BipAddr) (rules : List Rule) (format : Format) (m : Message) → is_manager (beside bbmd m).here.port ≡ true
    → cast_response rules format (beside bbmd m) ≡ plain_cast_response rules format (beside bbmd m)
unfolding cast_asks cast_sends beside
plain_beside None rules format m e = refl
plain_beside (Some manager) rules format m e = cc

pub plain_broadcasts : PlainBroadcasts
unfolding beside
plain_broadcasts rules format m e = plain_beside m.here.port.bbmd rules format m e

-- ---- network layer messages

none_announced : (rules : List Rule) (relay : Relay) (m : Message) → relay.announce ≡ false → onward_sends rules relay m ≡ []
unfolding onward_sends
none_announced rules relay m e = rw e refl

pub plain_network_messages : PlainNetworkMessages
plain_network_messages rules relay m e =
    let steps : List Sending = sends_of rules (manage_steps relay m) in
    ap (λ (sends : List Sending). record { asks = manage_asks relay m; sends = sends; change = manage_change rules relay m })
    (ap (λ (sends : List Sending). steps ++ sends) (none_announced rules relay m e) ∙ append-nil steps)
