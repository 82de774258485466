use Rattle.std.proofs.Common.{ap, ◌∙◌}
use Rattle.clap.specs.Simple.{app_of_fields}
use Rattle.std.proofs.lemmas.Result.{IfOk-weaker}
use Rattle.gw_command_line.proofs.options_lemmas.BuildLemmas.{added}
use Rattle.gw_tool_line.proofs.init_command.make_init_of_ports.Goals as goal

pub returns-clause-app : goal.returns-clause-app
returns-clause-app c =
    let zero = ap app_of_fields c.after_help.ensures ∙ (ap app_of_fields c.about.ensures ∙ c.new.ensures.app) in
    let one = added _ _ _ _ _ c.in_ok-arg.ensures c.make_many_needed.ensures.local zero c.make_many_needed.ensures.rule in
    IfOk-weaker c.arg-2.result _ _ (λ m h. added _ _ _ _ _ h c.make_many.ensures.local one c.make_many.ensures.rule) c.arg-2.ensures
