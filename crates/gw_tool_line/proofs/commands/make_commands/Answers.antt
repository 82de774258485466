use Rattle.std.proofs.Common.{ap, ap₂, ◌∙◌}
use Rattle.std.proofs.lemmas.Result.{IfOk-weaker}
use Rattle.clap.specs.Words.{App, with_subcommand}
use Rattle.gw_tool_line.specs.Commands.{commands}
use Rattle.gw_tool_line.proofs.commands.make_commands.Goals as goal

pub returns : goal.returns
unfolding commands
returns c =
    IfOk-weaker c.subcommand.result _ _
    (λ m h. h.shape c.in_ok-make_init.ensures.local ∙ ap₂ with_subcommand c.in_ok-make_most_commands.ensures (ap (λ (a : App). a.top) c.in_ok-make_init.ensures.app))
    c.subcommand.ensures
