-- What is sent, asked and learned, where it is nothing or where it is one thing.
use Rattle.std.proofs.Common.{◌≡◌, ◌∙◌, sym, ap, subst, refl, ℕ, List, [], ◌∷◌, map, Result}
use Rattle.std.specs.Prelude.{OnOk}
use Rattle.std.specs.declared.alloc.AllocError.{AllocError}
use Rattle.gw_addr.specs.declared.bip.BipAddr.{BipAddr}
use Rattle.gw_frames.specs.npdu.Npdu.{Destination}
use Rattle.gw_rules.specs.declared.format.Format.{Format}
use Rattle.gw_tables.specs.routes.History.{IsStateAfter, history_with, networks_learned}
use Rattle.gw_tables.specs.routes.History.{History as Learned}
use Rattle.gw_tables.specs.routes.History.{learned_after as learned_after_all}
use Rattle.gw_tables.specs.routes.Table.{Routed, Table, route_by, table_of}
use Rattle.gw_tables.specs.declared.routes.route.Way.{Way}
use Rattle.gw_tables.specs.declared.routes.route.Way.TheVariants.{Everywhere}
use Rattle.gw_relay.specs.History.{learned_after}
use Rattle.gw_relay.specs.Message.{Message}
use Rattle.gw_relay.specs.Route.{copy, others, steps_by}
use Rattle.gw_relay.specs.State.{Relay}
use Rattle.gw_relay.specs.Steps.{asks_of}
use Rattle.gw_relay.specs.declared.change.Change.{Change}
use Rattle.gw_relay.specs.declared.change.Change.TheVariants.{Learnings}
use Rattle.gw_relay.specs.declared.port.PortState.{PortState}

-- each copy of a global broadcast is asked for
pub each_copy_asks : (format : Format) (m : Message) (d : Destination) (ports : List PortState) → asks_of (map (copy format m d) ports) ≡ []
    → ports ≡ []
each_copy_asks format m d [] none = refl
each_copy_asks format m d (state ∷ ports) none = absurd cc

pub everywhere_silent : (relay : Relay) (m : Message) (d : Destination) (to : Way) → to ≡ Everywhere
    → asks_of (steps_by relay m d to) ≡ [] → others m.here.port.number relay.ports ≡ []
everywhere_silent relay m d to is none =
    each_copy_asks relay.format m d (others m.here.port.number relay.ports) (sym (ap (λ (w : Way). asks_of (steps_by relay m d w)) is) ∙ none)

-- networks that are learned are more of the learnings
pub learnings_made : (result : Result (Unit {0}) AllocError) (old new : Table) (change : Change) (port : ℕ) (next : BipAddr)
    (networks nets : List ℕ)
    → change ≡ Learnings port next networks → nets ≡ networks
    → OnOk result ((direct : List ℕ) (configured : Routed) (h : Learned) → IsStateAfter old direct configured h
    → IsStateAfter new direct configured (history_with old nets (route_by port next) h))
    → OnOk result ((direct : List ℕ) (configured : Routed) (h : Learned) → IsStateAfter old direct configured h
    → IsStateAfter new direct configured (learned_after change old h))
learnings_made result old new change port next networks nets is same made =
    subst (λ (x : Change). OnOk result ((direct : List ℕ) (configured : Routed) (h : Learned) → IsStateAfter old direct configured h
    → IsStateAfter new direct configured (learned_after x old h))) (sym is)
    (subst (λ (n : List ℕ). OnOk result ((direct : List ℕ) (configured : Routed) (h : Learned) → IsStateAfter old direct configured h
    → IsStateAfter new direct configured (history_with old n (route_by port next) h))) same made)

-- no network is learned before any event
pub none_learned : (direct : List ℕ) (configured : Routed) → IsStateAfter (table_of direct configured []) direct configured []
unfolding learned_after_all networks_learned
none_learned direct configured = refl
