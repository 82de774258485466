use Rattle.std.proofs.Common.{List, subst}
use Rattle.gw_rules.specs.declared.rule.Rule.{Rule}
use Rattle.gw_script.specs.Script.{lines_of}
use Rattle.gw_policy_drafts.specs.suggestion.Lines.{AreSeen}
use Rattle.gw_policy_drafts.proofs.suggestion.suggestion.made.Goals as goal

pub returns : goal.returns
returns g c = λ log known. record {
  old = c.in_ok-config.config;
  configured = c.in_ok-config.ensures;
  asks = c.in_ok-seen.seen.given;
  seen = subst (λ (rs : List Rule). AreSeen rs (lines_of log) c.in_ok-seen.seen.given) c.rules.ensures.rules (c.in_ok-seen.ensures log known);
  made = c.in_ok-added.ensures;
}
