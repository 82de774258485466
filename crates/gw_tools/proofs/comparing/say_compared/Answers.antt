use Rattle.std.proofs.Common.{ℕ, subst, sym}
use Rattle.std.specs.Global.{Vec}
use Rattle.gw_tools.specs.Comparing.{IsCompared}
use Rattle.gw_tools.proofs.comparing.say_compared.Goals as goal

pub returns-clause-compared : goal.returns-clause-compared
returns-clause-compared g c =
    let limits = c.args.limits in
    let old = c.args.sides.now.old.now in
    let new = c.args.sides.now.new.now in
    let lines = c.in_ok-lines.lines in (
      (
        lines.made,
        subst (λ (text : Vec ℕ). IsCompared limits old new lines.made text.items) (sym c.said_of.ensures.text) c.in_ok-lines.ensures.compared,
        c.said_of.ensures.ends,
      ),
      c.said_of.ensures.unprinted,
    )
