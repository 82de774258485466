use Rattle.std.proofs.lemmas.Result.{on_ok_weaker}
use Rattle.gw_notices.proofs.metrics_lemmas.Samples.{ported}
use Rattle.gw_notices.proofs.metrics.text.put_by_port.Goals as goal

pub returns : goal.returns
returns c =
    on_ok_weaker c.put_ports.result
    (ported c.args.family c.args.ports.now c.args.out.now.items c.put_head.new.out.items c.put_ports.new.out.items
    c.in_ok-put_head.ensures) c.put_ports.ensures
