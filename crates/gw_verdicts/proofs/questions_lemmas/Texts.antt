-- The text of an answer, part by part.
use Rattle.std.proofs.Common.{◌≡◌, ◌∙◌, ◌++◌, ℕ, Bool, List, Result, ap, ap₂, subst, codes}
use Rattle.std.specs.Prelude.{OnOk}
use Rattle.std.proofs.lemmas.List.{append_assoc}
use Rattle.gw_core.specs.Asked.{asked_at}
use Rattle.gw_core.specs.Effects.{effects_at}
use Rattle.gw_core.specs.History.{next}
use Rattle.gw_core.specs.State.{State}
use Rattle.gw_core.specs.declared.asked.Asked.{Asked}
use Rattle.gw_core.specs.declared.effects.Effects.{Effects}
use Rattle.gw_rules.specs.declared.rule.Rule.{Rule}
use Rattle.gw_script.specs.Event.{Event}
use Rattle.gw_verdicts.specs.declared.questions.place.Question.{Question}
use Rattle.gw_verdicts.specs.declared.questions.place.Station.{Station}
use Rattle.gw_verdicts.specs.questions.Answers.{answer_text, answered_text, back_text, rest_text, step_text, way_line}
use Rattle.gw_verdicts.specs.declared.questions.call.Call.{Call}
use Rattle.gw_verdicts.specs.questions.Calls.{asker_of, call_event, call_text, end_text}
use Rattle.gw_verdicts.specs.questions.Datagrams.{answer_event, request_event}

joined : (text way step rest : List ℕ) → text ++ way ++ step ++ rest ≡ text ++ (way ++ step ++ rest)
joined text way step rest = ap (λ (t : List ℕ). t ++ rest) (append_assoc text way step) ∙ append_assoc text (way ++ step) rest

-- a way, what is done about an event, and what comes of it
parts : (step : Event → List ℕ) (text before middle way rest due : List ℕ) (event e : Event) → event ≡ e → before ≡ text ++ way
    → middle ≡ before ++ step event → rest ≡ due → middle ++ rest ≡ text ++ (way ++ step e ++ due)
parts step text before middle way rest due event e is first second same =
    ap₂ (λ (a b : List ℕ). a ++ b) (second ∙ ap₂ (λ (a b : List ℕ). a ++ b) first (ap step is)) same ∙ joined text way (step e) due

pub answered : {E : Type 0} (w : State) (q : Question) (station : Station) (r : Result Bool E) (text before middle after : List ℕ) (event : Event)
    (rules : List Rule) (asked : List Asked) (done : Effects)
    → event ≡ answer_event q station
    → before ≡ text ++ way_line (codes "the answer comes from ") station.link station.port
    → middle ≡ before ++ step_text w event
    → rules ≡ (next w event).rules → asked ≡ asked_at w event → done ≡ effects_at w event
    → OnOk r (after ≡ middle ++ back_text rules q.asker asked done.sends)
    → OnOk r (after ≡ text ++ answered_text w q station)
answered w q station r text before middle after event rules asked done is first second ruled asks does ends =
    let e = answer_event q station in
    let way = way_line (codes "the answer comes from ") station.link station.port in
    let due : back_text rules q.asker asked done.sends ≡ back_text (next w e).rules q.asker (asked_at w e) (effects_at w e).sends =
    ap (λ (l : List Rule). back_text l q.asker asked done.sends) (ruled ∙ ap (λ (v : Event). (next w v).rules) is)
    ∙ ap (λ (l : List Asked). back_text (next w e).rules q.asker l done.sends) (asks ∙ ap (asked_at w) is)
    ∙ ap (λ (d : Effects). back_text (next w e).rules q.asker (asked_at w e) d.sends) (does ∙ ap (effects_at w) is) in
    subst (λ (t : List ℕ). OnOk r (after ≡ t)) (parts (step_text w) text before middle way _ _ event e is first second due) ends

pub questioned : {E : Type 0} (w moved : State) (q : Question) (r : Result Bool E) (text before middle after : List ℕ) (event : Event)
    (asked : List Asked) (done : Effects)
    → event ≡ request_event q
    → before ≡ text ++ way_line (codes "the request comes from ") q.asker.link q.asker.port
    → middle ≡ before ++ step_text w event
    → moved ≡ next w event → asked ≡ asked_at w event → done ≡ effects_at w event
    → OnOk r (after ≡ middle ++ rest_text moved q asked done.sends q.target)
    → OnOk r (after ≡ text ++ answer_text w q)
questioned w moved q r text before middle after event asked done is first second moves asks does ends =
    let e = request_event q in
    let way = way_line (codes "the request comes from ") q.asker.link q.asker.port in
    let due : rest_text moved q asked done.sends q.target ≡ rest_text (next w e) q (asked_at w e) (effects_at w e).sends q.target =
    ap (λ (v : State). rest_text v q asked done.sends q.target) (moves ∙ ap (next w) is)
    ∙ ap (λ (l : List Asked). rest_text (next w e) q l done.sends q.target) (asks ∙ ap (asked_at w) is)
    ∙ ap (λ (d : Effects). rest_text (next w e) q (asked_at w e) d.sends q.target) (does ∙ ap (effects_at w) is) in
    subst (λ (t : List ℕ). OnOk r (after ≡ t)) (parts (step_text w) text before middle way _ _ event e is first second due) ends

pub called : {E : Type 0} (w : State) (q : Call) (r : Result Bool E) (text before middle after : List ℕ) (event : Event)
    (rules : List Rule) (asked : List Asked) (done : Effects)
    → event ≡ call_event q
    → before ≡ text ++ way_line (codes "the request comes from ") (asker_of q).link (asker_of q).port
    → middle ≡ before ++ step_text w event
    → rules ≡ (next w event).rules → asked ≡ asked_at w event → done ≡ effects_at w event
    → OnOk r (after ≡ middle ++ end_text rules q asked done.sends)
    → OnOk r (after ≡ text ++ call_text w q)
called w q r text before middle after event rules asked done is first second ruled asks does ends =
    let e = call_event q in
    let way = way_line (codes "the request comes from ") (asker_of q).link (asker_of q).port in
    let due : end_text rules q asked done.sends ≡ end_text (next w e).rules q (asked_at w e) (effects_at w e).sends =
    ap (λ (l : List Rule). end_text l q asked done.sends) (ruled ∙ ap (λ (v : Event). (next w v).rules) is)
    ∙ ap (λ (l : List Asked). end_text (next w e).rules q l done.sends) (asks ∙ ap (asked_at w) is)
    ∙ ap (λ (d : Effects). end_text (next w e).rules q (asked_at w e) d.sends) (does ∙ ap (effects_at w) is) in
    subst (λ (t : List ℕ). OnOk r (after ≡ t)) (parts (step_text w) text before middle way _ _ event e is first second due) ends
