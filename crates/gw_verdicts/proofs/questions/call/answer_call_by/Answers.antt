use Rattle.std.proofs.Common.{◌≡◌, ◌∙◌, ◌++◌, [], ℕ, List, ap, ap₂}
use Rattle.gw_core.specs.History.{no_counts, state_after}
use Rattle.gw_core.specs.State.{State}
use Rattle.gw_core.specs.declared.event.Counts.{Counts}
use Rattle.gw_verdicts.specs.questions.Answers.{outcome_of}
use Rattle.gw_verdicts.specs.questions.Calls.{call_text, may_call}
use Rattle.gw_verdicts.proofs.questions.call.answer_call_by.Goals as goal

pub returns : goal.returns
returns c =
    let q = c.args.call.now in
    let w = state_after c.args.config no_counts [] in
    let zero : c.default.result ≡ no_counts =
    ap₂ (λ (t d : ℕ). let k : Counts = record { ticks = t; denials = d } in k) c.default.ensures.0 c.default.ensures.1 in
    let state : c.in_ok-gateway.gateway ≡ w =
    c.in_ok-gateway.ensures.state ∙ ap (λ (k : Counts). state_after c.args.config k []) zero in
    record {
      lines = c.in_ok-is_yes.ensures.text
          ∙ ap₂ (λ (a b : List ℕ). a ++ b) c.new-text.ensures.items (ap (λ (v : State). call_text v q) state);
      outcome = c.outcome_of.ensures ∙ ap outcome_of (c.in_ok-is_yes.ensures.is ∙ ap (λ (v : State). may_call v q) state);
    }
