use Rattle.std.proofs.lemmas.Result.{IfOk-weaker}
use Rattle.gw_command_line.proofs.options_lemmas.BuildLemmas.{added}
use Rattle.gw_tool_line.proofs.ask_command.make_ask_of_stations.Goals as goal

pub returns-clause-app : goal.returns-clause-app
returns-clause-app c =
    let zero = c.in_ok-make_of_file.ensures.app in
    let one = added _ _ _ _ _ c.in_ok-arg.ensures c.make_from.ensures.local zero c.make_from.ensures.rule in
    IfOk-weaker c.arg-2.result _ _ (λ m h. added _ _ _ _ _ h c.make_option.ensures.local one c.make_option.ensures.rule) c.arg-2.ensures
