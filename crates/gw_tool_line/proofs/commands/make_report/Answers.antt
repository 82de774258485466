use Rattle.std.proofs.Common.{ap, ◌∙◌}
use Rattle.clap.specs.Simple.{app_of_fields}
use Rattle.std.proofs.lemmas.Result.{IfOk-weaker}
use Rattle.gw_command_line.proofs.options_lemmas.BuildLemmas.{added}
use Rattle.gw_tool_line.proofs.commands.make_report.Goals as goal

pub returns-clause-app : goal.returns-clause-app
returns-clause-app c =
    let zero = ap app_of_fields c.after_help.ensures ∙ c.in_ok-make_of_file.ensures.app in
    IfOk-weaker c.arg.result _ _ (λ m h. added _ _ _ _ _ h c.make_option.ensures.local zero c.make_option.ensures.rule) c.arg.ensures
