use Rattle.std.proofs.Common.{sym, arith}
use Rattle.gw_relay.specs.State.{deleted}
use Rattle.gw_relay.specs.declared.port.PortState.{PortState}
use Rattle.gw_relay.proofs.Places.{changed_past, changed_there, changed_zero}
use Rattle.gw_relay.proofs.commit.delete.Goals as goal
use Rattle.gw_relay.proofs.commit.delete.Goals.{then-port-eq0-via-then-port-eq0, then-port-eq0-via-else-port-eq0+then-from-ports}

pub returns : goal.returns
returns c =
    let f = λ (state : PortState). record state { fdt = deleted c.args.address state.fdt } in
    let done = rw c.from-2.ensures at c.deleted.ensures in
    rw (c.from-2.ensures, done) (sym (changed_there c.args.port f c.args.ports.now c.index-ports-from.result (omega arith) (omega arith)))

pub returns-then-port-eq0 : goal.returns-then-port-eq0
returns-then-port-eq0 c =
    let f = λ (state : PortState). record state { fdt = deleted c.args.address state.fdt } in
    elim c.then-port-eq0.branch [
      | then-port-eq0-via-then-port-eq0 w ↦ sym (changed_zero c.args.port f c.args.ports.now w.if-port-eq0.true)
      | then-port-eq0-via-else-port-eq0+then-from-ports w ↦ sym (changed_past c.args.port f c.args.ports.now (omega arith) (omega arith))
    ]
