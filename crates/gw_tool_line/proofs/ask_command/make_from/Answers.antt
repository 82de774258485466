use Rattle.std.proofs.Common.{ap, true, ◌∙◌}
use Rattle.clap.specs.Words.{Rule, rule_of}
use Rattle.gw_tool_line.proofs.ask_command.make_from.Goals as goal

pub returns-clause-rule : goal.returns-clause-rule
returns-clause-rule c = ap rule_of c.required.ensures ∙ ap (λ (r : Rule). record r { required = true }) c.make_option.ensures.rule
