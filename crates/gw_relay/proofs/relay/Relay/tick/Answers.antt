use Rattle.std.proofs.Common.{◌≡◌, ◌∙◌, sym, ap, map, length}
use Rattle.std.proofs.lemmas.List.{length-map}
use Rattle.gw_relay.specs.State.{Relay, port_later}
use Rattle.gw_relay.proofs.Histories.{ticks_extend}
use Rattle.gw_relay.proofs.Places.{whole}
use Rattle.gw_relay.proofs.Ticks.{later_alike}
use Rattle.gw_relay.proofs.relay.Relay.tick.Goals as goal

pub invariant_of-self : goal.invariant_of-self
invariant_of-self c =
    let items = c.self.inside.ports.items in
    let new : c.tick_each.new.ports ≡ map port_later items = c.tick_each.ensures ∙ ap (map port_later) c.deref_mut.ensures.value in
    let len : length c.tick_each.new.ports ≡ c.self.inside.ports.len = ap length new ∙ length-map items port_later
    ∙ sym (ap length c.deref_mut.ensures.value) ∙ c.deref_mut.ensures.len in
    rw (whole c.tick_each.new.ports items c.self.inside.ports.len len, new) (later_alike c.self.inside.ticks items c.self.invariant)

pub returns-clause-stands : goal.returns-clause-stands
returns-clause-stands c = λ ports acts stand.
    let items = c.self.inside.ports.items in
    let new : c.tick_each.new.ports ≡ map port_later items = c.tick_each.ensures ∙ ap (map port_later) c.deref_mut.ensures.value in
    let len : length c.tick_each.new.ports ≡ c.self.inside.ports.len = ap length new ∙ length-map items port_later
    ∙ sym (ap length c.deref_mut.ensures.value) ∙ c.deref_mut.ensures.len in
    rw (whole c.tick_each.new.ports items c.self.inside.ports.len len, new)
    (ticks_extend items ports acts (ap (λ (relay : Relay). relay.ports) c.self.view_is ∙ stand))
