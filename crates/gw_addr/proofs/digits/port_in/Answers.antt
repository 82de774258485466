use Rattle.std.proofs.Common.{Some, sym, ap, ◌∙◌}
use Rattle.gw_addr.proofs.Written.{bacnet_digits, bacnet_port}
use Rattle.gw_addr.proofs.digits.port_in.Goals as goal

pub returns-then-is_bacnet_port-clause-found : goal.returns-then-is_bacnet_port-clause-found
returns-then-is_bacnet_port-clause-found c = c.if-is_bacnet_port.ensures ∙ sym bacnet_digits

pub returns-then-is_bacnet_port-clause-only : goal.returns-then-is_bacnet_port-clause-only
returns-then-is_bacnet_port-clause-only c = λ n small is. ap (λ x. Some x) (bacnet_port n small (sym c.if-is_bacnet_port.ensures ∙ is))
