use Rattle.std.proofs.Common.{ap}
use Rattle.std.specs.Io.Buffered.{writer_buffer, writer_inner}
use Rattle.gw_service.specs.Kept.{LeavesKept, given, service_by}
use Rattle.gw_service.specs.Serving.{Ends}
use Rattle.gw_service.proofs.KeptLemmas.{on_output}
use Rattle.gw_service.proofs.kept.run_open.Goals as goal

pub returns-in-None-clause-ran : goal.returns-in-None-clause-ran
returns-in-None-clause-ran g c =
    let done = c.run_on-in-None.ensures.ran in (
      done.0,
      on_output g.L.OctetSink.held
          (λ (before then : Ends). LeavesKept (given g.S.Store.held g.Q.Requests.recorded g.L.OctetSink.held c.args.ready.before) c.args.ready.config (service_by c.args.ready.options.now) before then done.0
          c.run_on-in-None.result) c.args.opened.now.log
          (g.W.Write.contents c.get_mut-log.result.now) (g.W.Write.contents (writer_inner c.args.output.now))
          (g.W.Write.contents c.run_on-in-None.new.log) (writer_buffer c.args.output.now) (g.X.Wire.calls c.args.opened.now.sockets)
          (g.X.Wire.calls c.run_on-in-None.new.sockets) c.in-None.is (c.requires.unbuffered c.in-None.is)
          (ap g.W.Write.contents c.get_mut-log.ensures.value) done.1,
      done.2,
    )
