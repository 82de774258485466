use Rattle.std.proofs.Common.{◌∙◌}
use Rattle.gw_rules.specs.Authorizer.{denied_of}
use Rattle.gw_core.proofs.TurnLemmas.{same_refusals}
use Rattle.gw_core.proofs.asked.AuthorizerPolicyReporter.into_report.Goals as goal

pub returns-clause-refusals : goal.returns-clause-refusals
returns-clause-refusals c = λ rules asks kept.
    c.into_refusals.ensures ∙ same_refusals c.args.self.denied (denied_of rules asks) kept
