use Rattle.std.proofs.lemmas.Result.{IfOk-weaker}
use Rattle.gw_command_line.proofs.options_lemmas.BuildLemmas.{added}
use Rattle.gw_tool_line.proofs.ask_command.make_ask_to_serve.Goals as goal

pub returns-clause-app : goal.returns-clause-app
returns-clause-app c =
    let zero = c.in_ok-make_ask_to_write.ensures.app in
    let one = added _ _ _ _ _ c.in_ok-arg.ensures c.make_option.ensures.local zero c.make_option.ensures.rule in
    IfOk-weaker c.arg-2.result _ _ (λ m h. added _ _ _ _ _ h c.make_flag.ensures.local one c.make_flag.ensures.rule) c.arg-2.ensures
