use Rattle.std.proofs.lemmas.Result.{IfOk-weaker}
use Rattle.gw_command_line.proofs.options_lemmas.BuildLemmas.{added}
use Rattle.gw_command_line.proofs.commands.make_run_of_reports.Goals as goal

pub returns-clause-app : goal.returns-clause-app
returns-clause-app c =
    let zero = c.in_ok-make_run_of_turns.ensures.app in
    let one = added _ _ _ _ _ c.in_ok-arg.ensures c.make_flag.ensures.local zero c.make_flag.ensures.rule in
    let two = added _ _ _ _ _ c.in_ok-arg-2.ensures c.make_number.ensures.local one c.make_number.ensures.rule in
    IfOk-weaker c.arg-3.result _ _ (λ m h. added _ _ _ _ _ h c.make_flag-2.ensures.local two c.make_flag-2.ensures.rule) c.arg-3.ensures
