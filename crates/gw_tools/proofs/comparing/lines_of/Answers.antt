use Rattle.std.proofs.Common.{◌∙◌, ◌++◌, ap, subst, sym, ℕ, List, Bool}
use Rattle.std.specs.Global.{Vec}
use Rattle.gw_policy_review.specs.comparison.Comparing.{steps_text}
use Rattle.gw_tools.specs.Comparing.{IsWithSteps}
use Rattle.gw_tools.proofs.comparing.lines_of.Goals as goal
use Rattle.gw_tools.proofs.comparing.lines_of.Goals.{then-steps+in_ok-put_steps, else-steps}

pub returns : goal.returns
returns c = λ right.
    let counted = c.in_ok-made.ensures.counted right in
    let whole = c.args.front.items ++ counted.0 in
    let used = counted.1.steps in
    let text = c.if-steps.text in
    elim c.if-steps.branch [
      | then-steps+in_ok-put_steps w ↦ (
        counted.0,
        counted.1,
        subst (λ (steps : Bool). IsWithSteps steps used whole text.items) (sym w.if-steps.true)
            (ap (λ (v : Vec ℕ). v.items) w.text-is ∙ w.in_ok-put_steps.ensures.ok
            ∙ ap (λ (t : List ℕ). t ++ steps_text c.steps-used.result) counted.3
            ∙ ap (λ (n : ℕ). whole ++ steps_text n) (c.steps-used.ensures ∙ sym counted.2)),
      )
      | else-steps w ↦ (
        counted.0,
        counted.1,
        subst (λ (steps : Bool). IsWithSteps steps used whole text.items) (sym w.if-steps.false)
            (ap (λ (v : Vec ℕ). v.items) w.text-is ∙ counted.3),
      )
    ]
