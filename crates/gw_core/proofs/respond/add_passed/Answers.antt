use Rattle.std.proofs.Common.{◌∙◌, sym, []}
use Rattle.gw_relay.specs.Message.{message_view}
use Rattle.gw_relay.specs.Route.{route_response}
use Rattle.gw_core.specs.internal.Respond.{passed_response}
use Rattle.gw_core.proofs.PlainLemmas.{passes_by}
use Rattle.gw_core.proofs.TurnLemmas.{walked_like}
use Rattle.gw_core.proofs.respond.add_passed.Goals as goal

pub returns-in_err-route-clause-silent : goal.returns-in_err-route-clause-silent
returns-in_err-route-clause-silent g c = λ asks known.
    let m = message_view c.args.message.now in
    let by = passes_by [] c.args.relay.now m (sym c.is_plain.ensures ∙ c.if-is_plain.true) in
    let ok = c.in_err-route.ensures.silent (sym by.asks ∙ asks) in
    absurd cc

pub returns-then-is_plain-clause-walked : goal.returns-then-is_plain-clause-walked
returns-then-is_plain-clause-walked g c = λ rules stands.
    let relay = c.args.relay.now in
    let m = message_view c.args.message.now in
    let by = passes_by rules relay m (sym c.is_plain.ensures ∙ c.if-is_plain.true) in
    walked_like g.A.Asker.kept g.A.Asker.kept_of rules (route_response rules relay m) (passed_response rules relay m) _ _ by.asks by.sends
    by.change (c.in_ok-route.ensures.turn rules stands)
