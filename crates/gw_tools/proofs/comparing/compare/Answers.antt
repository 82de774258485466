use Rattle.std.proofs.Common.{rules, ◌≡◌, Result, Ok, subst, sym}
use Rattle.gw_ending.specs.declared.fault.Fault.{Fault}
use Rattle.gw_tools.specs.Comparing.{AreProgress, ReportsProgress}
use Rattle.gw_tools.specs.declared.placed.Placed.{Placed}
use Rattle.gw_tools.proofs.comparing.compare.Goals as goal

pub returns-in-Ok-clause-said : goal.returns-in-Ok-clause-said
returns-in-Ok-clause-said g c =
    let said = c.say_compared.ensures.said in
    let first : c.args.both.old ≡ Ok c.in_ok-old.old = search rules in
    let second : c.args.both.new ≡ Ok c.in-Ok.new = c.in-Ok.is in
    let told : AreProgress c.in_ok-old.old.config c.in-Ok.new.config said.0 =
    subst (λ (placed : Placed). AreProgress c.in_ok-old.old.config placed.config said.0) c.in-Ok.new-is said.1 in (
      said.0,
      subst (λ (old : Result Placed Fault). ReportsProgress old c.args.both.new said.0) (sym first)
          (subst (λ (new : Result Placed Fault). ReportsProgress (Ok c.in_ok-old.old) new said.0) (sym second) told),
      said.2,
    )
