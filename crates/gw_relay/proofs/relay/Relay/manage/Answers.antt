use Rattle.std.proofs.Common.{◌∙◌, sym, subst}
use Rattle.std.specs.Prelude.{OnOk}
use Rattle.gw_relay.specs.Manage.{answer_steps, manage_response}
use Rattle.gw_relay.specs.Message.{message_view}
use Rattle.gw_relay.specs.Response.{Response}
use Rattle.gw_relay.specs.Turn.{IsWalked}
use Rattle.gw_relay.proofs.Adding.{on_ok, taken_walked}
use Rattle.gw_relay.proofs.Learning.{answered_due, learned_due}
use Rattle.gw_relay.proofs.relay.Relay.manage.Goals as goal

pub returns-then-is_i_am_router-clause-turn : goal.returns-then-is_i_am_router-clause-turn
returns-then-is_i_am_router-clause-turn g c = λ rules stands.
    let m = message_view c.args.message.now in
    let names = sym c.is_i_am_router.ensures ∙ c.if-is_i_am_router.true in
    subst (λ (due : Response). OnOk c.learn.result (IsWalked g.A.Asker.kept g.A.Asker.kept_of rules due c.args.turn.now c.learn.new.turn))
    (sym (learned_due rules c.args.self.now m names))
    (c.learn.ensures.turn rules stands)

pub returns-clause-turn : goal.returns-clause-turn
returns-clause-turn g c = λ rules stands.
    let relay = c.args.self.now in
    let m = message_view c.args.message.now in
    let other = sym c.is_i_am_router.ensures ∙ c.if-is_i_am_router.false in
    on_ok c.add_by_type.result
    (taken_walked g.A.Asker.kept g.A.Asker.kept_of rules (answer_steps relay m) (manage_response rules relay m) c.args.turn.now
    c.add_by_type.new.turn (answered_due rules relay m other))
    (c.add_by_type.ensures.steps rules stands)
