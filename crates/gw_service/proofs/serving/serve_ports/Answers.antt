use Rattle.std.proofs.Common.{List, ℕ, ◌++◌, ◌≡◌, ap₂, rules, subst}
use Rattle.std.specs.Io.Buffered.{writer_contents}
use Rattle.std.specs.Io.KnownBytes.{Appends}
use Rattle.std.specs.Prelude.{option_map, string_bytes}
use Rattle.gw_notices.proofs.AppendLemmas.{appends_two}
use Rattle.gw_notices.specs.Startup.{startup_line}
use Rattle.gw_service.specs.Kept.{states_of}
use Rattle.gw_service.specs.Serving.{machine_of}
use Rattle.gw_service.proofs.PlainLemmas.{plain_is_served}
use Rattle.gw_service.proofs.serving.serve_ports.Goals as goal

pub returns-clause-served : goal.returns-clause-served
returns-clause-served g c =
    let done = c.serve_kept.ensures.served in
    let note = c.unaudited_note.result.now in
    let wait = c.waiting_note.result.now in
    let same : c.as_bytes.result.now ≡ note = search rules in
    let as_said : c.as_bytes-2.result.now ≡ wait = search rules in
    let held = g.E.OctetSink.held in
    let old = c.args.host.now in
    let options = c.args.order.options.now in
    let given = machine_of (g.H.Host.offers old) (g.H.Host.Closes c.serve_kept.new.host) g.H.Log.OctetSink.held g.H.Sockets.Wire.calls in
    let states = states_of (g.H.Host.offers old) g.H.StateStore.Store.held g.H.Reloads.Requests.recorded in
    let line = startup_line options.verbose c.args.order.edition.config (option_map string_bytes options.log) in (
      (note ++ wait) ++ done.0,
      (
        c.is_waiting-waits.result,
        c.is_waiting-waits.ensures,
        done.0,
        ap₂ (λ (t u : List ℕ). (t ++ u) ++ done.0) c.unaudited_note.ensures c.waiting_note.ensures,
        (
          done.1,
          λ plain quiet. plain_is_served given states options (writer_contents g.W.Write.contents c.args.output.now)
              (writer_contents g.W.Write.contents c.serve_kept.new.output) c.args.order.edition line done.0 c.serve_kept.result plain quiet
              done.1,
        ),
      ),
      λ never.
          let first = held c.args.errors.now in
          let second = held c.write_note.new.errors in
          let third = held c.write_note-2.new.errors in
          let one = c.write_note.ensures.lasts never in
          appends_two first third (held c.serve_kept.new.errors) (note ++ wait) done.0
          (appends_two first second third note wait
          (subst (λ (t : List ℕ). Appends first second t) same (c.write_note.ensures.said never))
          (subst (λ (t : List ℕ). Appends second third t) as_said (c.write_note-2.ensures.said one)))
          (done.2 (c.write_note-2.ensures.lasts one)),
    )
