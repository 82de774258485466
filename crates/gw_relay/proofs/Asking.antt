-- One ask, and what follows from its answer.
use Rattle.std.proofs.Common.{◌≡◌, ◌∙◌, sym, ap, refl, ℕ, Bool, true, false, ◌&&◌, not, List, [], ◌∷◌, map, length, nat_le, Option, Some, None}
use Rattle.std.specs.Prelude.{if◌then◌else◌, is_some}
use Rattle.std.specs.List.{list_all}
use Rattle.gw_addr.specs.declared.bip.BipAddr.{BipAddr}
use Rattle.gw_frames.specs.bvll.Bvll.{encoding}
use Rattle.gw_frames.specs.bvll.Bvll.{Message as Frame}
use Rattle.gw_frames.specs.bvll.Bvll as bvll
use Rattle.gw_rules.specs.Ask.{Ask}
use Rattle.gw_rules.specs.RuleList.{allows}
use Rattle.gw_rules.specs.declared.format.Format.{Format}
use Rattle.gw_rules.specs.declared.operation.Operation.{Operation}
use Rattle.gw_rules.specs.declared.rule.Rule.{Rule}
use Rattle.gw_relay.specs.Asks.{link_ask, link_asks, management_of}
use Rattle.gw_relay.specs.Cast.{carried_asks, cast_ask, cast_asks, cast_sends, goes_on, is_broadcast, is_carried, accepts, is_unregistered, passed_on, targets}
use Rattle.gw_relay.specs.Link.{answer_to, change_of, granted, is_granted, is_misplaced, link_answer, link_change, link_grants, refused}
use Rattle.gw_relay.specs.Message.{Message}
use Rattle.gw_frames.specs.declared.bvll.writing.TheConstants.{MAX_LEN}
use Rattle.gw_relay.specs.Sends.{sendings, sent}
use Rattle.gw_relay.specs.State.{is_manager}
use Rattle.gw_relay.specs.declared.port.Port.{Port}
use Rattle.gw_relay.specs.internal.Serving.{judged, served, served_change}
use Rattle.gw_relay.specs.declared.port.PortState.{PortState}
use Rattle.gw_relay.specs.declared.change.Change.{Change}

and-true : (b : Bool) → (b && true) ≡ b
and-true true = refl
and-true false = refl

-- a list of one ask is allowed where that is
allowed_one : (rules : List Rule) (ask : Ask) → list_all (allows rules) (ask ∷ []) ≡ allows rules ask
allowed_one rules ask = and-true (allows rules ask)

-- ---- tables

-- the asks of a frame that manages a table of its port are one
pub link_asked : (format : Format) (state : PortState) (from : BipAddr) (frame : Frame) (op : Operation) → management_of frame ≡ Some op
    → is_manager state.port ≡ true → link_asks format state.port from frame ≡ link_ask format state.port from frame op ∷ []
link_asked format state from frame op managed manager = rw (managed, manager) refl

not_misplaced : (a b : Bool) → b ≡ true → not (a && not b) ≡ true
not_misplaced true true e = refl
not_misplaced false b e = refl
not_misplaced true false e = cc

-- on a port that is the broadcast manager of its subnet no frame is misplaced
pub placed : (port : Port) (frame : Frame) → is_manager port ≡ true → not (is_misplaced port frame) ≡ true
placed port frame manager = not_misplaced (is_some (management_of frame)) (is_manager port) manager

grants_so : (rules : List Rule) (format : Format) (state : PortState) (from : BipAddr) (frame : Frame) (op : Operation) (b : Bool) → management_of frame ≡ Some op
    → is_manager state.port ≡ true
    → b ≡ allows rules (link_ask format state.port from frame op) → link_grants rules format state from frame ≡ (b && is_granted state from frame)
grants_so rules format state from frame op b managed manager judges =
    ap (λ (p : Bool). p && (list_all (allows rules) (link_asks format state.port from frame) && is_granted state from frame)) (placed state.port frame manager)
    ∙ ap (λ (asks : List Ask). list_all (allows rules) asks && is_granted state from frame) (link_asked format state from frame op managed manager)
    ∙ ap (λ (a : Bool). a && is_granted state from frame) (allowed_one rules (link_ask format state.port from frame op) ∙ sym judges)

pub link_served : (rules : List Rule) (format : Format) (state : PortState) (from : BipAddr) (frame : Frame) (op : Operation) (b : Bool)
    → management_of frame ≡ Some op → is_manager state.port ≡ true
    → b ≡ allows rules (link_ask format state.port from frame op) → link_answer rules format state from frame ≡ served state from frame b
unfolding link_answer
link_served rules format state from frame op b managed manager judges =
    ap (λ (g : Bool). map (answer_to state.port from) (if g then granted state frame else refused frame))
    (grants_so rules format state from frame op b managed manager judges)

pub link_changed : (rules : List Rule) (format : Format) (state : PortState) (from : BipAddr) (frame : Frame) (op : Operation) (b : Bool)
    → management_of frame ≡ Some op → is_manager state.port ≡ true
    → b ≡ allows rules (link_ask format state.port from frame op) → link_change rules format state from frame ≡ served_change state from frame b
unfolding link_change
link_changed rules format state from frame op b managed manager judges =
    let none : Option Change = None in
    ap (λ (g : Bool). if g then change_of state.port from frame else none) (grants_so rules format state from frame op b managed manager judges)

-- a frame that manages no table has no answer, no ask and no change
pub unmanaged_answer : (rules : List Rule) (format : Format) (state : PortState) (from : BipAddr) (frame : Frame) → management_of frame ≡ None
    → link_answer rules format state from frame ≡ []
unfolding link_answer
unmanaged_answer rules format state from (bvll.result_code code) e = refl
unmanaged_answer rules format state from (bvll.write_bdt entries) e = cc
unmanaged_answer rules format state from bvll.read_bdt e = cc
unmanaged_answer rules format state from (bvll.read_bdt_ack entries) e = refl
unmanaged_answer rules format state from (bvll.forwarded originator npdu) e = refl
unmanaged_answer rules format state from (bvll.register time_to_live) e = cc
unmanaged_answer rules format state from bvll.read_fdt e = cc
unmanaged_answer rules format state from (bvll.read_fdt_ack entries) e = refl
unmanaged_answer rules format state from (bvll.delete address) e = cc
unmanaged_answer rules format state from (bvll.distribute npdu) e = refl
unmanaged_answer rules format state from (bvll.original_unicast npdu) e = refl
unmanaged_answer rules format state from (bvll.original_broadcast npdu) e = refl

pub unmanaged_change : (rules : List Rule) (format : Format) (state : PortState) (from : BipAddr) (frame : Frame) → management_of frame ≡ None
    → link_change rules format state from frame ≡ None
unfolding link_change
unmanaged_change rules format state from (bvll.result_code code) e = refl
unmanaged_change rules format state from (bvll.write_bdt entries) e = cc
unmanaged_change rules format state from bvll.read_bdt e = cc
unmanaged_change rules format state from (bvll.read_bdt_ack entries) e = refl
unmanaged_change rules format state from (bvll.forwarded originator npdu) e = refl
unmanaged_change rules format state from (bvll.register time_to_live) e = cc
unmanaged_change rules format state from bvll.read_fdt e = cc
unmanaged_change rules format state from (bvll.read_fdt_ack entries) e = refl
unmanaged_change rules format state from (bvll.delete address) e = cc
unmanaged_change rules format state from (bvll.distribute npdu) e = refl
unmanaged_change rules format state from (bvll.original_unicast npdu) e = refl
unmanaged_change rules format state from (bvll.original_broadcast npdu) e = refl

-- a frame that is for a table of a port that has none asks nothing, is refused and changes nothing
pub misplaced_asks : (format : Format) (state : PortState) (from : BipAddr) (frame : Frame) (op : Operation) → management_of frame ≡ Some op
    → is_manager state.port ≡ false → link_asks format state.port from frame ≡ []
misplaced_asks format state from frame op managed other = rw (managed, other) refl

misplaced_grants : (rules : List Rule) (format : Format) (state : PortState) (from : BipAddr) (frame : Frame) (op : Operation)
    → management_of frame ≡ Some op → is_manager state.port ≡ false → link_grants rules format state from frame ≡ false
misplaced_grants rules format state from frame op managed other = rw (managed, other) refl

pub misplaced_answer : (rules : List Rule) (format : Format) (state : PortState) (from : BipAddr) (frame : Frame) (op : Operation)
    → management_of frame ≡ Some op → is_manager state.port ≡ false
    → link_answer rules format state from frame ≡ map (answer_to state.port from) (refused frame)
unfolding link_answer
misplaced_answer rules format state from frame op managed other =
    ap (λ (g : Bool). map (answer_to state.port from) (if g then granted state frame else refused frame))
    (misplaced_grants rules format state from frame op managed other)

pub misplaced_change : (rules : List Rule) (format : Format) (state : PortState) (from : BipAddr) (frame : Frame) (op : Operation)
    → management_of frame ≡ Some op → is_manager state.port ≡ false → link_change rules format state from frame ≡ None
unfolding link_change
misplaced_change rules format state from frame op managed other =
    let none : Option Change = None in
    ap (λ (g : Bool). if g then change_of state.port from frame else none) (misplaced_grants rules format state from frame op managed other)

-- a frame that asks nothing changes nothing
unasked_by : (rules : List Rule) (format : Format) (state : PortState) (from : BipAddr) (frame : Frame) (op : Option Operation) → management_of frame ≡ op
    → (manager : Bool) → is_manager state.port ≡ manager
    → link_asks format state.port from frame ≡ [] → link_change rules format state from frame ≡ None
unasked_by rules format state from frame None is manager e none = unmanaged_change rules format state from frame is
unasked_by rules format state from frame (Some op) is false e none = misplaced_change rules format state from frame op is e
unasked_by rules format state from frame (Some op) is true e none =
    let one : link_ask format state.port from frame op ∷ [] ≡ [] = sym (link_asked format state from frame op is e) ∙ none in
    absurd cc

pub unasked_change : (rules : List Rule) (format : Format) (state : PortState) (from : BipAddr) (frame : Frame) → link_asks format state.port from frame ≡ []
    → link_change rules format state from frame ≡ None
unasked_change rules format state from frame none = unasked_by rules format state from frame (management_of frame) refl (is_manager state.port) refl none

pub unmanaged_asks : (format : Format) (state : PortState) (from : BipAddr) (frame : Frame) → management_of frame ≡ None → link_asks format state.port from frame ≡ []
unmanaged_asks format state from frame e = rw e refl

-- ---- broadcasts

-- a message to nobody isn't sent
none_if : (b : Bool) (port : ℕ) (octets : List ℕ) → (if b then sendings port [] octets else []) ≡ []
none_if true port octets = refl
none_if false port octets = refl

pub sent_nowhere : (port : ℕ) (message : Frame) → sent port [] message ≡ []
sent_nowhere port message = none_if (nat_le (length (encoding message)) MAX_LEN) port (encoding message)

-- a broadcast that is heard, and no unregistered sender's, asks for itself and for what it carries
pub cast_asked : (format : Format) (m : Message) → accepts m.here m.from m.frame ≡ true → is_unregistered m.here m.from m.frame ≡ false
    → is_carried m.here m.frame ≡ true → cast_asks format m ≡ cast_ask format m ∷ carried_asks format m
unfolding cast_asks
cast_asked format m h s b = rw (h, s, b) refl

-- a frame that is not heard, or an unregistered sender's, asks nothing
pub unheard_asks : (format : Format) (m : Message) → accepts m.here m.from m.frame ≡ false → cast_asks format m ≡ []
unfolding cast_asks
unheard_asks format m h = rw h refl

pub strange_asks : (format : Format) (m : Message) → accepts m.here m.from m.frame ≡ true → is_unregistered m.here m.from m.frame ≡ true → cast_asks format m ≡ []
unfolding cast_asks
strange_asks format m h s = rw (h, s) refl

pub quiet_asks : (format : Format) (m : Message) → accepts m.here m.from m.frame ≡ true → is_unregistered m.here m.from m.frame ≡ false
    → is_carried m.here m.frame ≡ false → cast_asks format m ≡ []
unfolding cast_asks
quiet_asks format m h s b = rw (h, s, b) refl

-- the sends of each
pub unheard_sends : (rules : List Rule) (format : Format) (m : Message) → accepts m.here m.from m.frame ≡ false → cast_sends rules format m ≡ []
unfolding cast_sends
unheard_sends rules format m h = rw h refl

pub strange_sends : (rules : List Rule) (format : Format) (m : Message) → accepts m.here m.from m.frame ≡ true → is_unregistered m.here m.from m.frame ≡ true
    → cast_sends rules format m ≡ map (answer_to m.here.port m.from) (refused m.frame)
unfolding cast_sends
strange_sends rules format m h s = rw (h, s) refl

by_answer : (b : Bool) (state : PortState) (from : BipAddr) (frame : Frame)
    → (if not b then map (answer_to state.port from) (refused frame) else sent state.port.number (targets state from frame)
    (passed_on from frame)) ≡ judged state from frame b
by_answer true state from frame = refl
by_answer false state from frame = refl

carried_manager : (a b : Bool) → (a && b) ≡ true → a ≡ true
carried_manager true b e = refl
carried_manager false b e = cc

pub cast_judged : (rules : List Rule) (format : Format) (m : Message) (b : Bool) → accepts m.here m.from m.frame ≡ true
    → is_unregistered m.here m.from m.frame ≡ false → is_carried m.here m.frame ≡ true → b ≡ list_all (allows rules) (cast_ask format m ∷ carried_asks format m)
    → cast_sends rules format m ≡ judged m.here m.from m.frame b
unfolding cast_sends
cast_judged rules format m b h s broadcast judges =
    rw (h, s, cast_asked format m h s broadcast, ← judges, carried_manager (is_manager m.here.port) (is_broadcast m.frame) broadcast)
    (by_answer b m.here m.from m.frame)

-- a frame that is no broadcast goes to nobody
no_targets : (state : PortState) (from : BipAddr) (frame : Frame) → is_broadcast frame ≡ false → targets state from frame ≡ []
no_targets state from (bvll.result_code code) e = refl
no_targets state from (bvll.write_bdt entries) e = refl
no_targets state from bvll.read_bdt e = refl
no_targets state from (bvll.read_bdt_ack entries) e = refl
no_targets state from (bvll.forwarded originator npdu) e = cc
no_targets state from (bvll.register time_to_live) e = refl
no_targets state from bvll.read_fdt e = refl
no_targets state from (bvll.read_fdt_ack entries) e = refl
no_targets state from (bvll.delete address) e = refl
no_targets state from (bvll.distribute npdu) e = cc
no_targets state from (bvll.original_unicast npdu) e = refl
no_targets state from (bvll.original_broadcast npdu) e = cc

pub quiet_sends : (rules : List Rule) (format : Format) (m : Message) → accepts m.here m.from m.frame ≡ true → is_unregistered m.here m.from m.frame ≡ false
    → is_carried m.here m.frame ≡ false → cast_sends rules format m ≡ []
unfolding cast_sends
quiet_sends rules format m h s b =
    rw (h, s, quiet_asks format m h s b) (by (is_manager m.here.port) (is_broadcast m.frame) refl b)
  where
    by : (manager casts : Bool) → is_broadcast m.frame ≡ casts → (manager && casts) ≡ false
        → (if manager then sent m.here.port.number (targets m.here m.from m.frame) (passed_on m.from m.frame) else []) ≡ []
    by false casts e q = refl
    by true true e q = cc
    by true false e q = rw (no_targets m.here m.from m.frame e) (sent_nowhere m.here.port.number (passed_on m.from m.frame))

-- so it isn't silent
pub cast_loud : (format : Format) (m : Message) → accepts m.here m.from m.frame ≡ true → is_unregistered m.here m.from m.frame ≡ false
    → is_carried m.here m.frame ≡ true → cast_asks format m ≡ [] → ⊥
cast_loud format m h s b none =
    let both : cast_ask format m ∷ carried_asks format m ≡ [] = sym (cast_asked format m h s b) ∙ none in
    cc

-- a frame that goes on is accepted, and no unregistered sender's
accepted : (a u : Bool) → (a && not u) ≡ true → a ≡ true
accepted true u e = refl
accepted false u e = cc

registered : (a u : Bool) → (a && not u) ≡ true → u ≡ false
registered true true e = cc
registered true false e = refl
registered false u e = absurd cc

pub goes_on_accepted : (m : Message) → goes_on m.here m.from m.frame ≡ true → accepts m.here m.from m.frame ≡ true
goes_on_accepted m on = accepted (accepts m.here m.from m.frame) (is_unregistered m.here m.from m.frame) on

pub goes_on_registered : (m : Message) → goes_on m.here m.from m.frame ≡ true → is_unregistered m.here m.from m.frame ≡ false
goes_on_registered m on = registered (accepts m.here m.from m.frame) (is_unregistered m.here m.from m.frame) on
