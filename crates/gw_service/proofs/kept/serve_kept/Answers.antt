use Rattle.std.proofs.Common.{List, [], ◌++◌, ap, Ok, Err, refl, subst, ℕ}
use Rattle.gw_configuration.specs.declared.port.Port.{Port}
use Rattle.std.specs.Io.Buffered.{writer_contents}
use Rattle.std.specs.Io.KnownBytes.{Appends}
use Rattle.gw_service.specs.Kept.{ran, unopened, unprepared}
use Rattle.gw_system.specs.declared.opening.OpenFailure.TheVariants as opening
use Rattle.gw_notices.proofs.AppendLemmas.{appends_nothing, appends_two}
use Rattle.gw_service.proofs.kept.serve_kept.Goals as goal

pub returns-in-Ok-open-clause-served : goal.returns-in-Ok-open-clause-served
returns-in-Ok-open-clause-served g c =
    let opens = subst (λ (ports : List Port). (g.H.Host.offers c.args.host.now).SocketsOpen ports (Ok c.in-Ok.sockets)) c.ports.ensures.ports
    c.in-Ok.ensures.opens in
    let before = c.in-Ok-prepare.before in
    let is = c.in-Ok-prepare.ensures in
    let line = c.in-Ok-open.field-0.line.items in
    let warning = c.warning_of.result.now in
    let text = before.text.items in
    let done = c.run_open-outcome.ensures.ran in
    let held = g.E.OctetSink.held in
    let first = held c.args.errors.now in
    let second = held c.write_note.new.errors in
    let third = held c.write_note-in-Ok-open.new.errors in
    let fourth = held c.write_note-in-Ok-open-2.new.errors in (
      ((line ++ warning) ++ text) ++ done.0,
      ran before c.in-Ok-open.field-0.log c.run_open-outcome.new.opened.log c.in-Ok.sockets c.run_open-outcome.new.opened.sockets
          (writer_contents g.W.Write.contents c.open.new.output) warning done.0
          (record {
            saved = is.saved;
            line = is.line;
            text = is.text;
            store = is.store;
            metrics = is.metrics;
            requests = is.requests;
            watcher = is.watcher;
            checksum = is.checksum;
          })
          (record { log_is = c.in-Ok-open.ensures.open; sockets_are = opens }) c.close.ensures c.run_open-outcome.ensures.log done.1
          c.warning_of.ensures (ap (λ (l : List ℕ). ((l ++ warning) ++ text) ++ done.0) c.in-Ok-open.ensures.line),
      λ never.
          let one = c.write_note.ensures.lasts never in
          let two = c.write_note-in-Ok-open.ensures.lasts one in
          appends_two first fourth (held c.run_open-outcome.new.errors) ((line ++ warning) ++ text) done.0
          (appends_two first third fourth (line ++ warning) text
          (appends_two first second third line warning
          (subst (λ (t : List ℕ). Appends first second t) c.deref.ensures.value (c.write_note.ensures.said never)) (c.write_note-in-Ok-open.ensures.said one))
          (subst (λ (t : List ℕ). Appends third fourth t) c.deref-in-Ok-open.ensures.value (c.write_note-in-Ok-open-2.ensures.said two)))
          (done.2 (c.write_note-in-Ok-open-2.ensures.lasts two)),
    )

pub returns-in-Err-clause-served : goal.returns-in-Err-clause-served
returns-in-Err-clause-served g c = (
  c.refused.ensures.said.0,
  unopened (opening.Sockets c.in-Err.failure)
      (subst (λ (ports : List Port). (g.H.Host.offers c.args.host.now).SocketsOpen ports (Err c.in-Err.failure)) c.ports.ensures.ports c.in-Err.ensures.opens, refl)
      (ap Err c.refused.ensures.fault) c.refused.ensures.said.1,
  c.refused.ensures.said.2,
)

pub returns-in-Err-prepare-clause-served : goal.returns-in-Err-prepare-clause-served
returns-in-Err-prepare-clause-served g c = (
  [],
  unprepared c.in-Err-prepare.fault c.in-Ok.sockets
      (subst (λ (ports : List Port). (g.H.Host.offers c.args.host.now).SocketsOpen ports (Ok c.in-Ok.sockets)) c.ports.ensures.ports c.in-Ok.ensures.opens)
      c.in-Err-prepare.ensures.fault refl refl refl,
  λ never. appends_nothing (g.E.OctetSink.held c.args.errors.now),
)

pub returns-in-Err-open-clause-served : goal.returns-in-Err-open-clause-served
returns-in-Err-open-clause-served g c = (
  c.refused-in-Err-open.ensures.said.0,
  unopened (opening.Log c.in-Err-open.failure) (
    c.in-Ok.sockets,
    subst (λ (ports : List Port). (g.H.Host.offers c.args.host.now).SocketsOpen ports (Ok c.in-Ok.sockets)) c.ports.ensures.ports c.in-Ok.ensures.opens,
    c.in-Err-open.ensures.open,
  ) (ap Err c.refused-in-Err-open.ensures.fault) c.refused-in-Err-open.ensures.said.1,
  c.refused-in-Err-open.ensures.said.2,
)
