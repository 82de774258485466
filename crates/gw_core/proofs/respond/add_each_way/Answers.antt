use Rattle.std.proofs.Common.{sym, ◌∙◌}
use Rattle.gw_relay.specs.Cast.{cast_asks, cast_response}
use Rattle.gw_relay.specs.Manage.{manage_response}
use Rattle.gw_relay.specs.Message.{message_view}
use Rattle.gw_relay.specs.Route.{route_response}
use Rattle.gw_core.specs.internal.Respond.{passed_response}
use Rattle.gw_core.proofs.RespondLemmas.{asks_off, asks_on, change_off, change_on, empty_left, on_asks, sends_off, sends_on}
use Rattle.gw_core.proofs.TurnLemmas.{walked_both, walked_like}
use Rattle.gw_core.proofs.respond.add_each_way.Goals as goal

pub returns-in_err-goes_on-clause-silent : goal.returns-in_err-goes_on-clause-silent
returns-in_err-goes_on-clause-silent g c = λ asks known.
    let ok = c.in_err-goes_on.ensures.silent (empty_left (cast_asks c.args.relay.now.format (message_view c.args.message.now)) _ asks) known in
    absurd cc

pub returns-in_err-route-clause-silent : goal.returns-in_err-route-clause-silent
returns-in_err-route-clause-silent g c = λ asks known.
    let on = sym c.in_ok-goes_on.ensures.goes_on ∙ c.if-not-goes_on.false in
    let silent = on_asks c.args.relay.now (message_view c.args.message.now) on asks in
    let ok = c.in_err-route.ensures.silent silent.0 in
    absurd cc

pub returns-in_err-add_managed-clause-silent : goal.returns-in_err-add_managed-clause-silent
returns-in_err-add_managed-clause-silent g c = λ asks known.
    let on = sym c.in_ok-goes_on.ensures.goes_on ∙ c.if-not-goes_on.false in
    let silent = on_asks c.args.relay.now (message_view c.args.message.now) on asks in
    let ok = c.in_err-add_managed.ensures.silent silent.1 in
    absurd cc

pub returns-then-not-goes_on-clause-walked : goal.returns-then-not-goes_on-clause-walked
returns-then-not-goes_on-clause-walked g c = λ rules stands.
    let relay = c.args.relay.now in
    let m = message_view c.args.message.now in
    let off = sym c.in_ok-goes_on.ensures.goes_on ∙ c.if-not-goes_on.true in
    walked_like g.A.Asker.kept g.A.Asker.kept_of rules (cast_response rules relay.format m) (passed_response rules relay m) _ _ (asks_off relay m off)
    (sends_off rules relay m off) (change_off rules relay m off) (c.in_ok-goes_on.ensures.turn rules stands)

pub returns-clause-walked : goal.returns-clause-walked
returns-clause-walked g c = λ rules stands.
    let kept = g.A.Asker.kept in
    let kept_of = g.A.Asker.kept_of in
    let relay = c.args.relay.now in
    let m = message_view c.args.message.now in
    let on = sym c.in_ok-goes_on.ensures.goes_on ∙ c.if-not-goes_on.false in
    let cast = c.in_ok-goes_on.ensures.turn rules stands in
    let then = c.in_ok-goes_on.ensures.stays rules stands in
    let routed = c.in_ok-route.ensures.turn rules then in
    let managed = c.in_ok-add_managed.ensures.walked rules (c.in_ok-route.ensures.stays rules then) in
    let later = walked_both kept kept_of g.met.A.Asker.kept_both rules (route_response rules relay m) (manage_response rules relay m) _ _ _
    routed managed in
    walked_like kept kept_of rules _ (passed_response rules relay m) _ _ (asks_on relay m on) (sends_on rules relay m on)
    (change_on rules relay m on) (walked_both kept kept_of g.met.A.Asker.kept_both rules (cast_response rules relay.format m) _ _ _ _ cast later)
