use Rattle.std.proofs.Common.{arith, length}
use Rattle.std.specs.Prelude.{IfErr}
use Rattle.gw_script.proofs.Passing.{passes_on}
use Rattle.gw_system.specs.Host.{IsSocketFailure}
use Rattle.gw_system.proofs.udp.open_pairs.Goals as goal

pub returns-in_err-pair-clause-failure : goal.returns-in_err-pair-clause-failure
returns-in_err-pair-clause-failure g c =
    let ports = length c.args.ports.now in
    passes_on (λ r. IfErr r (IsSocketFailure ports)) c.in_err-pair.field-0.0 c.from_residual.result c.from_residual.ensures
    (c.in_err-pair.ensures ports (omega (arith, c.loop-place-test.true)))
