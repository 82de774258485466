use Rattle.std.proofs.Common.{ap, ap₂, ◌∙◌}
use Rattle.std.proofs.lemmas.Result.{IfOk-weaker}
use Rattle.clap.specs.Words.{App, with_subcommand}
use Rattle.gw_tool_line.specs.Commands.{middle_commands}
use Rattle.gw_tool_line.proofs.commands.make_middle_commands.Goals as goal

pub returns : goal.returns
unfolding middle_commands
returns c =
    let zero = c.in_ok-make_first_commands.ensures in
    let one = c.in_ok-subcommand.ensures.shape c.in_ok-make_why.ensures.local ∙ ap₂ with_subcommand zero (ap (λ (a : App). a.top) c.in_ok-make_why.ensures.app) in
    let two = c.in_ok-subcommand-2.ensures.shape c.in_ok-make_report.ensures.local ∙ ap₂ with_subcommand one (ap (λ (a : App). a.top) c.in_ok-make_report.ensures.app) in
    let three = c.in_ok-subcommand-3.ensures.shape c.in_ok-make_log.ensures.local ∙ ap₂ with_subcommand two (ap (λ (a : App). a.top) c.in_ok-make_log.ensures.app) in
    IfOk-weaker c.subcommand-4.result _ _
    (λ m h. h.shape c.in_ok-make_compare.ensures.local ∙ ap₂ with_subcommand three (ap (λ (a : App). a.top) c.in_ok-make_compare.ensures.app)) c.subcommand-4.ensures
