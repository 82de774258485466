-- The relay does the same under two lists of rules that decide alike what it asks.
use Rattle.std.proofs.Common.{◌≡◌, refl, sym, ap, ap₂, ◌∙◌, ℕ, Bool, true, false, not, cond, ◌&&◌, ◌||◌, if◌then◌else◌, List, [], ◌∷◌, ◌++◌, length, map, Option, Some, None}
use Rattle.std.specs.Prelude.{filter}
use Rattle.std.specs.List.{AllByRecursion, list_all}
use Rattle.gw_addr.specs.declared.bip.BipAddr.{BipAddr}
use Rattle.gw_frames.specs.bvll.Bvll.{Message as Frame}
use Rattle.gw_rules.specs.Ask.{Ask}
use Rattle.gw_rules.specs.RuleList.{allows}
use Rattle.gw_rules.specs.declared.format.Format.{Format}
use Rattle.gw_rules.specs.declared.rule.Rule.{Rule}
use Rattle.gw_rules.proofs.EachAsk.{each_front, each_rest}
use Rattle.gw_relay.specs.Asks.{link_asks}
use Rattle.gw_relay.specs.Cast.{accepts, cast_asks, cast_sends, is_unregistered, passed_on, targets}
use Rattle.gw_relay.specs.Entry.{admits, claim_asks, enter_asks, entry_asks, entry_sends}
use Rattle.gw_relay.specs.Link.{answer_to, change_of, granted, is_granted, is_misplaced, link_answer, link_change, link_grants, refused}
use Rattle.gw_relay.specs.Manage.{announced_but, answer_steps, is_i_am_router, keep_allowed, learn_ask, learn_steps, manage_asks, manage_change, manage_sends, manage_steps, named_networks, onward_sends}
use Rattle.gw_relay.specs.Message.{Message}
use Rattle.gw_relay.specs.Route.{route_asks, route_sends, route_steps}
use Rattle.gw_relay.specs.Sends.{Sending, sent}
use Rattle.gw_relay.specs.State.{Relay, is_manager}
use Rattle.gw_relay.specs.Steps.{Step, allowed_sends, asks_of, sends_of, step}
use Rattle.gw_relay.specs.declared.change.Change.{Change}
use Rattle.gw_relay.specs.declared.change.Change.TheVariants.{Learnings}
use Rattle.gw_relay.specs.declared.port.PortState.{PortState}
use Rattle.gw_tables.specs.routes.Table.{new_networks, route_by}
use Rattle.gw_core_laws.specs.Decisions.{DecideAlike}

-- all of these asks are allowed under both or under neither
pub all_alike : (r s : List Rule) (asks : List Ask) → DecideAlike r s asks → list_all (allows r) asks ≡ list_all (allows s) asks
all_alike r s [] alike = refl
all_alike r s (ask ∷ asks) alike = ap₂ (λ (a b : Bool). a && b) alike.0 (all_alike r s asks alike.1)

-- ---- tables of a port

grants_alike : (r s : List Rule) (format : Format) (on : PortState) (from : BipAddr) (frame : Frame)
    → DecideAlike r s (link_asks format on.port from frame) → link_grants r format on from frame ≡ link_grants s format on from frame
grants_alike r s format on from frame alike =
    ap (λ (allowed : Bool). not (is_misplaced on.port frame) && (allowed && is_granted on from frame)) (all_alike r s (link_asks format on.port from frame) alike)

pub link_answers_alike : (r s : List Rule) (format : Format) (on : PortState) (from : BipAddr) (frame : Frame)
    → DecideAlike r s (link_asks format on.port from frame) → link_answer r format on from frame ≡ link_answer s format on from frame
unfolding link_answer
link_answers_alike r s format on from frame alike =
    ap (λ (allowed : Bool). map (answer_to on.port from) (if allowed then granted on frame else refused frame)) (grants_alike r s format on from frame alike)

pub link_changes_alike : (r s : List Rule) (format : Format) (on : PortState) (from : BipAddr) (frame : Frame)
    → DecideAlike r s (link_asks format on.port from frame) → link_change r format on from frame ≡ link_change s format on from frame
unfolding link_change
link_changes_alike r s format on from frame alike =
    ap (λ (allowed : Bool). if allowed then change_of on.port from frame else None) (grants_alike r s format on from frame alike)

-- ---- who enters

pub entry_asks_alike : (r s : List Rule) (relay : Relay) (m : Message) → DecideAlike r s (entry_asks r relay m)
    → entry_asks r relay m ≡ entry_asks s relay m
entry_asks_alike r s relay m alike =
    let enter = enter_asks relay.format m in
    ap (λ (allowed : Bool). enter ++ (if allowed then claim_asks relay m else []))
    (all_alike r s enter (each_front (λ ask. allows r ask ≡ allows s ask) enter (if list_all (allows r) enter then claim_asks relay m else []) alike))

pub admits_alike : (r s : List Rule) (relay : Relay) (m : Message) → DecideAlike r s (entry_asks r relay m)
    → admits r relay m ≡ admits s relay m
admits_alike r s relay m alike =
    all_alike r s (entry_asks r relay m) alike ∙ ap (λ (asks : List Ask). list_all (allows s) asks) (entry_asks_alike r s relay m alike)

pub entry_sends_alike : (r s : List Rule) (relay : Relay) (m : Message) → DecideAlike r s (entry_asks r relay m)
    → entry_sends r relay m ≡ entry_sends s relay m
entry_sends_alike r s relay m alike =
    ap (λ (allowed : Bool). if allowed then [] else map (answer_to m.here.port m.from) (refused m.frame)) (admits_alike r s relay m alike)

-- ---- broadcasts

-- what is sent of a broadcast, by whether all its asks are allowed
cast_if : Message → Bool → List Sending
cast_if m allowed =
    if not (accepts m.here m.from m.frame) then []
    else if is_unregistered m.here m.from m.frame || not allowed then map (answer_to m.here.port m.from) (refused m.frame)
    else if is_manager m.here.port then sent m.here.port.number (targets m.here m.from m.frame) (passed_on m.from m.frame)
    else []

pub casts_alike : (r s : List Rule) (format : Format) (m : Message) → DecideAlike r s (cast_asks format m)
    → cast_sends r format m ≡ cast_sends s format m
unfolding cast_sends cast_if
casts_alike r s format m alike = ap (cast_if m) (all_alike r s (cast_asks format m) alike)

-- the refusal of one who isn't registered hangs on no ask
cast_of_stranger : Message → Bool → Bool → List Sending
cast_of_stranger m strange allowed =
    if not (accepts m.here m.from m.frame) then []
    else if strange || not allowed then map (answer_to m.here.port m.from) (refused m.frame)
    else if is_manager m.here.port then sent m.here.port.number (targets m.here m.from m.frame) (passed_on m.from m.frame)
    else []

pub strangers_alike : (r s : List Rule) (format : Format) (m : Message) → is_unregistered m.here m.from m.frame ≡ true
    → cast_sends r format m ≡ cast_sends s format m
unfolding cast_sends cast_of_stranger
strangers_alike r s format m strange =
    ap (λ (b : Bool). cast_of_stranger m b (list_all (allows r) (cast_asks format m))) strange
    ∙ sym (ap (λ (b : Bool). cast_of_stranger m b (list_all (allows s) (cast_asks format m))) strange)

-- ---- steps

pub steps_alike : (r s : List Rule) (steps : List Step) → DecideAlike r s (asks_of steps) → sends_of r steps ≡ sends_of s steps
steps_alike r s [] alike = refl
steps_alike r s (first ∷ steps) alike =
    ap₂ (λ (allowed : Bool) (others : List Sending). (if allowed then first.sends else []) ++ others)
    (all_alike r s first.asks (each_front (λ ask. allows r ask ≡ allows s ask) first.asks (asks_of steps) alike))
    (steps_alike r s steps (each_rest (λ ask. allows r ask ≡ allows s ask) first.asks (asks_of steps) alike))

-- ---- network layer messages

kept_alike : (r s : List Rule) (format : Format) (m : Message) (networks : List ℕ)
    → DecideAlike r s (asks_of (map (λ n. step (learn_ask format m n) []) networks))
    → keep_allowed r format m networks ≡ keep_allowed s format m networks
kept_alike r s format m [] alike = refl
kept_alike r s format m (network ∷ networks) alike =
    ap₂ (λ (allowed : Bool) (others : List ℕ). cond allowed (network ∷ others) others) alike.0 (kept_alike r s format m networks alike.1)

-- what a message of this kind lets be learned, and what is announced of it
module _ (r s : List Rule) (relay : Relay) (m : Message) where
  onward_if : Bool → List ℕ → List Sending
  onward_if allowed networks =
      if relay.announce && allowed
      then announced_but m.here.port.number relay.ports (new_networks relay.routes networks (route_by m.here.port.number m.link)) else []

  change_if : Bool → List ℕ → Option Change
  change_if allowed networks = if allowed then Some (Learnings m.here.port.number m.link networks) else None

  and_false : (b : Bool) → (b && false) ≡ false
  and_false true = refl
  and_false false = refl

  nothing_onward : (networks : List ℕ) → onward_if false networks ≡ []
  unfolding onward_if
  nothing_onward networks =
      ap (λ (b : Bool). if b then announced_but m.here.port.number relay.ports (new_networks relay.routes networks (route_by m.here.port.number m.link)) else []) (and_false relay.announce)

  onward_by : (b : Bool) → DecideAlike r s (asks_of (if b then learn_steps relay.format m else answer_steps relay m))
      → onward_if b (keep_allowed r relay.format m (named_networks m)) ≡ onward_if b (keep_allowed s relay.format m (named_networks m))
  onward_by true alike = ap (onward_if true) (kept_alike r s relay.format m (named_networks m) alike)
  onward_by false alike = nothing_onward (keep_allowed r relay.format m (named_networks m)) ∙ sym (nothing_onward (keep_allowed s relay.format m (named_networks m)))

  change_by : (b : Bool) → DecideAlike r s (asks_of (if b then learn_steps relay.format m else answer_steps relay m))
      → change_if b (keep_allowed r relay.format m (named_networks m)) ≡ change_if b (keep_allowed s relay.format m (named_networks m))
  unfolding change_if
  change_by true alike = ap (change_if true) (kept_alike r s relay.format m (named_networks m) alike)
  change_by false alike = refl

  pub manages_alike : DecideAlike r s (manage_asks relay m) → manage_sends r relay m ≡ manage_sends s relay m
  unfolding onward_sends onward_if
  manages_alike alike =
      ap₂ (λ (a b : List Sending). a ++ b) (steps_alike r s (manage_steps relay m) alike) (onward_by (is_i_am_router m.npdu) alike)

  pub learnings_alike : DecideAlike r s (manage_asks relay m) → manage_change r relay m ≡ manage_change s relay m
  unfolding change_if
  learnings_alike alike = change_by (is_i_am_router m.npdu) alike
