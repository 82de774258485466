use Rattle.std.proofs.Common.{◌≡◌, ◌∙◌, ap}
use Rattle.gw_core.specs.State.{State}
use Rattle.gw_script.specs.Event.{event_view}
use Rattle.gw_verdicts.specs.questions.Datagrams.{answer_event, event_of}
use Rattle.gw_verdicts.proofs.questions_lemmas.Texts.{answered}
use Rattle.gw_verdicts.proofs.questions.answer.put_answered.Goals as goal

pub returns-clause-text : goal.returns-clause-text
returns-clause-text c =
    let station = c.args.station.now in
    let event = event_view c.event_of.result in
    let is : event ≡ answer_event c.args.question.now station =
    c.event_of.ensures ∙ ap (event_of station) (c.deref.ensures.value ∙ c.in_ok-octets.ensures.octets) in
    let rules = c.rules.ensures ∙ ap (λ (s : State). s.rules) c.in_ok-answer.ensures.moved in
    answered c.args.gateway.now c.args.question.now station c.put_back.result c.args.text.now.items c.put_way.new.text.items
    c.take.new.text.items c.put_back.new.text.items event c.rules.result.now c.in_ok-answer.answer.asked c.in_ok-answer.answer.taken.effects
    is c.in_ok-put_way.ensures.ok c.in_ok-answer.ensures.text rules c.in_ok-answer.ensures.asked c.in_ok-answer.ensures.effects
    c.put_back.ensures.text
