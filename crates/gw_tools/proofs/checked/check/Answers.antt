use Rattle.std.proofs.Common.{Ok, subst, ℕ, List}
use Rattle.gw_tools.specs.Checked.{SaysConfig}
use Rattle.gw_tools.proofs.checked.check.Goals as goal

pub returns-in-Ok : goal.returns-in-Ok
returns-in-Ok c =
    let how = c.args.how in
    let config = c.in-Ok.config in (
      Ok config,
      c.in-Ok.ensures,
      subst (λ (text : List ℕ). SaysConfig how.explains how.lints text config c.say_config.result) c.octets_or.ensures c.say_config.ensures,
    )
