use Rattle.std.proofs.Common.{◌≡◌, ◌∙◌, sym, ap, subst, length}
use Rattle.gw_tables.specs.routes.History.{IsStateAfter}
use Rattle.gw_tables.specs.routes.Table.{Table}
use Rattle.gw_relay.specs.History.{learned_after}
use Rattle.gw_relay.specs.State.{Relay, ports_after}
use Rattle.gw_relay.proofs.Histories.{changes_extend}
use Rattle.gw_relay.proofs.Places.{length_after, whole}
use Rattle.gw_relay.proofs.Ticks.{after_alike}
use Rattle.gw_relay.proofs.relay.Relay.commit.Goals as goal

pub invariant_of-self : goal.invariant_of-self
invariant_of-self c =
    let items = c.self.inside.ports.items in
    let new : c.make.new.ports ≡ items = c.in_err-make.ensures.err ∙ c.deref_mut.ensures.value in
    let len : length c.make.new.ports ≡ c.self.inside.ports.len = ap length c.in_err-make.ensures.err ∙ c.deref_mut.ensures.len in
    rw (whole c.make.new.ports items c.self.inside.ports.len len, new) c.self.invariant

pub invariant_of-self-2 : goal.invariant_of-self-2
invariant_of-self-2 c =
    let items = c.self.inside.ports.items in
    let new : c.make.new.ports ≡ ports_after c.args.change items = c.in_ok-make.ensures.ok
    ∙ ap (ports_after c.args.change) c.deref_mut.ensures.value in
    let len : length c.make.new.ports ≡ c.self.inside.ports.len =
    ap length new ∙ length_after c.args.change items ∙ sym (ap length c.deref_mut.ensures.value) ∙ c.deref_mut.ensures.len in
    rw (whole c.make.new.ports items c.self.inside.ports.len len, new)
    (after_alike c.args.change c.self.inside.ticks items c.self.invariant)

pub returns-clause-stands : goal.returns-clause-stands
returns-clause-stands c = λ ports acts stand.
    let items = c.self.inside.ports.items in
    let new : c.make.new.ports ≡ ports_after c.args.change items = c.in_ok-make.ensures.ok
    ∙ ap (ports_after c.args.change) c.deref_mut.ensures.value in
    let len : length c.make.new.ports ≡ c.self.inside.ports.len =
    ap length new ∙ length_after c.args.change items ∙ sym (ap length c.deref_mut.ensures.value) ∙ c.deref_mut.ensures.len in
    rw (whole c.make.new.ports items c.self.inside.ports.len len, new)
    (changes_extend c.args.change items ports acts (ap (λ (relay : Relay). relay.ports) c.self.view_is ∙ stand))

pub returns-clause-learnings : goal.returns-clause-learnings
returns-clause-learnings c = λ direct configured h stand.
    let routes = ap (λ (relay : Relay). relay.routes) c.self.view_is in
    subst (λ (t : Table). IsStateAfter c.make.new.routes direct configured (learned_after c.args.change t h)) routes
    (c.in_ok-make.ensures.learnings direct configured h (routes ∙ stand))
