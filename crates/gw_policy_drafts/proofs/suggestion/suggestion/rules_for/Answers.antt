use Rattle.std.proofs.Common.{◌∙◌, List, ap}
use Rattle.gw_policy_drafts.specs.suggestion.Own.{Group, covered}
use Rattle.gw_policy_drafts.proofs.suggestion.suggestion.rules_for.Goals as goal

pub returns : goal.returns
returns c = record {
  exact = λ ask.
      c.in_ok-rules.ensures.matching ask
      ∙ ap (λ (gs : List Group). covered gs ask) c.as_slice.ensures.value
      ∙ c.in_ok-groups.ensures ask;
  allow = c.in_ok-rules.ensures.allow;
}
