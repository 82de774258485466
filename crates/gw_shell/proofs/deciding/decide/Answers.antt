use Rattle.std.proofs.Common.{inl, inr, refl, subst, ℕ}
use Rattle.std.specs.Global.{Vec}
use Rattle.gw_configuration.specs.Configuration.{Configuration}
use Rattle.gw_replay.specs.Decisions.{IsReport}
use Rattle.gw_ending.specs.reading.Files.{result_map}
use Rattle.gw_shell.proofs.DecidingLemmas.{same_configuration}
use Rattle.gw_shell.proofs.deciding.decide.Goals as goal

pub returns-in-Some : goal.returns-in-Some
returns-in-Some c = λ d is.
    let text = result_map (λ (octets : Vec ℕ). octets.items) c.args.text.now in
    let same = same_configuration text c.in-Ok.config d c.in-Ok.ensures is in
    inl (subst (λ (x : Configuration). IsReport x c.args.script.now c.in-Some.lines.items) same (c.in-Some.ensures c.args.script.now refl))

pub returns-in-None : goal.returns-in-None
returns-in-None c = λ d is. inr refl

pub returns-in_default : goal.returns-in_default
returns-in_default c = λ d is. inr refl
