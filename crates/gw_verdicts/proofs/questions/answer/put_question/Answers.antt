use Rattle.std.proofs.Common.{◌≡◌, ◌∙◌, ap}
use Rattle.gw_script.specs.Event.{event_view}
use Rattle.gw_verdicts.specs.questions.Datagrams.{event_of, request_event}
use Rattle.gw_verdicts.proofs.questions_lemmas.Texts.{questioned}
use Rattle.gw_verdicts.proofs.questions.answer.put_question.Goals as goal

pub returns-clause-text : goal.returns-clause-text
returns-clause-text c =
    let q = c.args.question.now in
    let event = event_view c.event_of.result in
    let is : event ≡ request_event q =
    c.event_of.ensures ∙ ap (event_of q.asker) (c.deref.ensures.value ∙ c.in_ok-octets.ensures.octets) in
    questioned c.args.gateway.now c.take.new.gateway q c.put_rest.result c.args.text.now.items c.put_way.new.text.items
    c.take.new.text.items c.put_rest.new.text.items event c.in_ok-request.request.asked c.in_ok-request.request.taken.effects
    is c.in_ok-put_way.ensures.ok c.in_ok-request.ensures.text c.in_ok-request.ensures.moved c.in_ok-request.ensures.asked
    c.in_ok-request.ensures.effects c.put_rest.ensures.text
