use Rattle.gw_addr.proofs.Appended.{then_put}
use Rattle.gw_audit.proofs.text.put_line.Goals as goal

pub returns : goal.returns
returns c = then_put (then_put c.in_ok-put_counts.ensures c.in_ok-put_asked.ensures) c.put_end.ensures
