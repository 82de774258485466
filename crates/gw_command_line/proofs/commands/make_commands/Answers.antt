use Rattle.std.proofs.Common.{ap, ap₂, ◌∙◌}
use Rattle.std.proofs.lemmas.Result.{IfOk-weaker}
use Rattle.clap.specs.Words.{App, with_subcommand}
use Rattle.gw_command_line.specs.Commands.{commands}
use Rattle.gw_command_line.proofs.commands.make_commands.Goals as goal

pub returns : goal.returns
unfolding commands
returns c =
    let zero = c.make_program.ensures in
    let one = c.in_ok-subcommand.ensures.shape c.in_ok-make_check.ensures.local ∙ ap₂ with_subcommand zero (ap (λ (a : App). a.top) c.in_ok-make_check.ensures.app) in
    let two = c.in_ok-subcommand-2.ensures.shape c.in_ok-make_replay.ensures.local ∙ ap₂ with_subcommand one (ap (λ (a : App). a.top) c.in_ok-make_replay.ensures.app) in
    IfOk-weaker c.subcommand-3.result _ _
    (λ m h. h.shape c.in_ok-make_run.ensures.local ∙ ap₂ with_subcommand two (ap (λ (a : App). a.top) c.in_ok-make_run.ensures.app)) c.subcommand-3.ensures
