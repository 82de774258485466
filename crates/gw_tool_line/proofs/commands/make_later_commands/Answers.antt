use Rattle.std.proofs.Common.{ap, ap₂, ◌∙◌}
use Rattle.std.proofs.lemmas.Result.{IfOk-weaker}
use Rattle.clap.specs.Words.{App, with_subcommand}
use Rattle.gw_tool_line.specs.Commands.{later_commands}
use Rattle.gw_tool_line.proofs.commands.make_later_commands.Goals as goal

pub returns : goal.returns
unfolding later_commands
returns c =
    let zero = c.in_ok-make_middle_commands.ensures in
    let one = c.in_ok-subcommand.ensures.shape c.in_ok-make_state.ensures.local ∙ ap₂ with_subcommand zero (ap (λ (a : App). a.top) c.in_ok-make_state.ensures.app) in
    let two = c.in_ok-subcommand-2.ensures.shape c.in_ok-make_suggest.ensures.local ∙ ap₂ with_subcommand one (ap (λ (a : App). a.top) c.in_ok-make_suggest.ensures.app) in
    let three = c.in_ok-subcommand-3.ensures.shape c.in_ok-make_reload.ensures.local ∙ ap₂ with_subcommand two (ap (λ (a : App). a.top) c.in_ok-make_reload.ensures.app) in
    IfOk-weaker c.subcommand-4.result _ _
    (λ m h. h.shape c.in_ok-make_objects.ensures.local ∙ ap₂ with_subcommand three (ap (λ (a : App). a.top) c.in_ok-make_objects.ensures.app)) c.subcommand-4.ensures
