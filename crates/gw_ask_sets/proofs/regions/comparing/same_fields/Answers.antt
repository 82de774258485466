use Rattle.std.proofs.Common.{arith}
use Rattle.gw_ask_sets.proofs.regions_lemmas.ComparingLaw.{same_matches}
use Rattle.gw_ask_sets.proofs.regions.comparing.same_fields.Goals as goal

pub returns : goal.returns
returns c = λ e. same_matches c.args.a.now c.args.b.now (λ k d within. c.loop-field.invariant k d (omega (arith, within, c.loop-field-test.false)))
