use Rattle.std.proofs.Common.{◌≡◌, Option, Some}
use Rattle.std.specs.Io.Buffered.{writer_contents}
use Rattle.gw_log_words.specs.declared.noted.Noted.{Noted}
use Rattle.gw_log_words.specs.declared.stamped.Stamped.{Stamped}
use Rattle.gw_system.specs.StampedHost.{log_if}
use Rattle.gw_service.specs.Kept.{states_of}
use Rattle.gw_service.specs.Serving.{Machine, machine_of}
use Rattle.gw_service.specs.StampedRun.{EndsIn, with_stamps}
use Rattle.gw_service.proofs.StampedLemmas.{service_closes}
use Rattle.gw_service.proofs.stamped_run.serve_stamped.Goals as goal

pub returns-clause-served : goal.returns-clause-served
returns-clause-served g c =
    let old = c.args.host.now in
    let Closes = g.H.Host.Closes c.close_on.new.host in
    let then = c.serve_ports-outcome.new.host.closed in
    let plain : Machine g.row.H-Log.Denot g.row.H-Sockets.Denot = machine_of (g.H.Host.offers old) Closes g.H.Log.OctetSink.held
    g.H.Sockets.Wire.calls in
    let stamped : Machine (Noted (Stamped g.row.H-Log.Denot g.row.H-Calendar.Denot)) g.row.H-Sockets.Denot = with_stamps plain in
    let closed : Machine (Noted (Stamped g.row.H-Log.Denot g.row.H-Calendar.Denot)) g.row.H-Sockets.Denot =
    record stamped { Closes = λ sockets log. then ≡ Some (sockets, log) } in
    let states = states_of (g.H.Host.offers old) g.H.StateStore.Store.held g.H.Reloads.Requests.recorded in
    let done = c.serve_ports-outcome.ensures.served in (
      done.0,
      service_closes closed states (g.H.Host.offers old).Waits
          (λ sockets log. (last : Option (Noted (Stamped g.row.H-Log.Denot g.row.H-Calendar.Denot)))
          × EndsIn g.H.Log.OctetSink.held log last × Closes sockets (log_if last)) c.close_on.ensures c.args.order.options.now
          (writer_contents g.W.Write.contents c.args.output.now) (writer_contents g.W.Write.contents c.serve_ports-outcome.new.output) c.args.order.edition
          done.0 c.serve_ports-outcome.result done.1,
      done.2,
    )
