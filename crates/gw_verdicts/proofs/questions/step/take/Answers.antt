use Rattle.std.proofs.Common.{◌≡◌, ◌∙◌, ◌++◌, ℕ, List, ap, ap₂}
use Rattle.std.specs.List.{flat_map}
use Rattle.std.proofs.lemmas.List.{append_assoc}
use Rattle.gw_core.specs.History.{next}
use Rattle.gw_core.specs.State.{State}
use Rattle.gw_core.specs.declared.asked.Asked.{Asked}
use Rattle.gw_core.specs.declared.effects.Effects.{Effects}
use Rattle.gw_rules.specs.declared.rule.Rule.{Rule}
use Rattle.gw_verdicts.specs.questions.Answers.{ask_line, sent_line}
use Rattle.gw_verdicts.proofs.questions.step.take.Goals as goal

pub returns-clause-text : goal.returns-clause-text
unfolding next
returns-clause-text c =
    let w = c.args.gateway.now in
    let rules : c.rules.result.now ≡ w.rules = c.rules.ensures ∙ ap (λ (s : State). s.rules) c.in-Ok.ensures.moved in
    let asks = ap₂ (λ (r : List Rule) (l : List Asked). flat_map (ask_line r) l) rules c.in-Ok.ensures.asked in
    let sends = ap (λ (e : Effects). flat_map sent_line e.sends) c.in-Ok.ensures.given in
    let both = ap₂ (λ (a b : List ℕ). c.args.text.now.items ++ a ++ b) asks sends in
    c.in_ok-put_step.ensures ∙ both ∙ append_assoc c.args.text.now.items _ _
