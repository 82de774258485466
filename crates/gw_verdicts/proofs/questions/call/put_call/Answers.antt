use Rattle.std.proofs.Common.{◌≡◌, ◌∙◌, ap, ap₂, ◌++◌, ℕ, List, codes}
use Rattle.gw_core.specs.State.{State}
use Rattle.gw_script.specs.Event.{event_view}
use Rattle.gw_verdicts.specs.declared.questions.place.Station.{Station}
use Rattle.gw_verdicts.specs.questions.Answers.{way_line}
use Rattle.gw_verdicts.specs.questions.Calls.{asker_of, call_event}
use Rattle.gw_verdicts.specs.questions.Datagrams.{event_of}
use Rattle.gw_verdicts.proofs.questions_lemmas.Texts.{called}
use Rattle.gw_verdicts.proofs.questions.call.put_call.Goals as goal

pub returns-clause-text : goal.returns-clause-text
returns-clause-text c =
    let q = c.args.call.now in
    let text = c.args.text.now.items in
    let event = event_view c.event_of.result in
    let is : event ≡ call_event q =
    c.event_of.ensures ∙ ap₂ (λ (s : Station) (o : List ℕ). event_of s o) c.asker_of-asker.ensures (c.deref.ensures.value ∙ c.in_ok-octets.ensures) in
    let way : c.put_way.new.text.items ≡ text ++ way_line (codes "the request comes from ") (asker_of q).link (asker_of q).port =
    c.in_ok-put_way.ensures.ok ∙ ap (λ (s : Station). text ++ way_line (codes "the request comes from ") s.link s.port) c.asker_of-asker.ensures in
    let rules = c.rules.ensures ∙ ap (λ (s : State). s.rules) c.in_ok-request.ensures.moved in
    called c.args.gateway.now q c.put_end.result text c.put_way.new.text.items
    c.take.new.text.items c.put_end.new.text.items event c.rules.result.now c.in_ok-request.request.asked c.in_ok-request.request.taken.effects
    is way c.in_ok-request.ensures.text rules c.in_ok-request.ensures.asked c.in_ok-request.ensures.effects
    c.put_end.ensures.text
