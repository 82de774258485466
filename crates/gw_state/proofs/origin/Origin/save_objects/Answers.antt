use Rattle.std.proofs.Common.{ap, length, arith}
use Rattle.std.proofs.lemmas.Result.{IfOk-weaker}
use Rattle.gw_state.proofs.Carrying.{few_saved}
use Rattle.gw_state.proofs.origin.Origin.save_objects.Goals as goal

pub returns-clause-most : goal.returns-clause-most
returns-clause-most c =
    IfOk-weaker c.saved_objects.result _ _
    (λ saved is.
    let few = few_saved c.deref.result.now c.args.states.now in
    let lengths = ap length is in
    let all = ap length c.deref.ensures.value in
    let most = c.self.invariant.1 in
    omega (arith, few, lengths, all, most))
    c.saved_objects.ensures
