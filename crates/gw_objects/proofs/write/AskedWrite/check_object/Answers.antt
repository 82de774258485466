use Rattle.gw_objects.specs.Write.{act_of, writes_text}
use Rattle.gw_objects.specs.internal.Act.{act_view}
use Rattle.gw_objects.proofs.Deciding.{decided}
use Rattle.gw_objects.proofs.write.AskedWrite.check_object.Goals as goal

pub returns-in_err-act-clause-write : goal.returns-in_err-act-clause-write
returns-in_err-act-clause-write c =
    let asked = c.args.self.now in
    decided act_view (λ act. record { place = c.args.place; act = act }) (λ put. put) writes_text c.in_err-act.field-0.0 c.from_residual.result
    (act_of c.args.object.now asked.property asked.index asked.priority asked.value.now) c.from_residual.ensures c.in_err-act.ensures.act
