use Rattle.std.specs.Io.Buffered.{writer_contents}
use Rattle.gw_service.specs.Kept.{LeavesService, WholeMachine, whole_of}
use Rattle.gw_service.specs.StampedRun.{whole_with_stamps}
use Rattle.gw_service.proofs.StampedLemmas.{with_them, without_them}
use Rattle.gw_service.proofs.stamped_run.serve_run.Goals as goal

pub returns-then-order-clause-served : goal.returns-then-order-clause-served
returns-then-order-clause-served g c =
    let old = c.args.host.now in
    let options = c.args.order.options.now in
    let held = writer_contents g.W.Write.contents c.args.output.now in
    let holds = writer_contents g.W.Write.contents c.serve_stamped.new.output in
    let whole : WholeMachine g.row.H-Log.Denot g.row.H-Sockets.Denot g.row.H-StateStore.Denot g.row.H-Reloads.Denot = whole_of (g.H.Host.offers old)
    (g.H.Host.Closes c.serve_stamped.new.host) g.H.Log.OctetSink.held g.H.Sockets.Wire.calls g.H.StateStore.Store.held g.H.Reloads.Requests.recorded in
    let done = c.serve_stamped.ensures.served in (
      done.0,
      with_them options.stamp
          (LeavesService (whole_with_stamps {C = g.row.H-Calendar.Denot} whole) options held holds c.args.order.edition done.0 c.serve_stamped.result)
          (LeavesService whole options held holds c.args.order.edition done.0 c.serve_stamped.result) c.if-order.true done.1,
      done.2,
    )

pub returns-else-order-clause-served : goal.returns-else-order-clause-served
returns-else-order-clause-served g c =
    let old = c.args.host.now in
    let options = c.args.order.options.now in
    let held = writer_contents g.W.Write.contents c.args.output.now in
    let holds = writer_contents g.W.Write.contents c.serve_ports.new.output in
    let whole : WholeMachine g.row.H-Log.Denot g.row.H-Sockets.Denot g.row.H-StateStore.Denot g.row.H-Reloads.Denot = whole_of (g.H.Host.offers old)
    (g.H.Host.Closes c.serve_ports.new.host) g.H.Log.OctetSink.held g.H.Sockets.Wire.calls g.H.StateStore.Store.held g.H.Reloads.Requests.recorded in
    let done = c.serve_ports.ensures.served in (
      done.0,
      without_them options.stamp
          (LeavesService (whole_with_stamps {C = g.row.H-Calendar.Denot} whole) options held holds c.args.order.edition done.0 c.serve_ports.result)
          (LeavesService whole options held holds c.args.order.edition done.0 c.serve_ports.result) c.if-order.false done.1,
      done.2,
    )
