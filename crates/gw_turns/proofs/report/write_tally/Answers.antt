use Rattle.std.proofs.Common.{◌++◌, ◌∷◌, []}
use Rattle.std.proofs.KnownBytes.{Appends-trans}
use Rattle.gw_turns.proofs.ReportLemmas.{behind_one}
use Rattle.gw_turns.specs.Reports.{drops_text, refusals_text}
use Rattle.gw_turns.proofs.report.write_tally.Goals as goal

pub returns-clause-ok : goal.returns-clause-ok
returns-clause-ok g c =
    let held = g.S.OctetSink.held in
    let t = c.args.tally.now in
    let two = Appends-trans (held c.args.sink.now) (held c.write_refusals.new.sink) (held c.write_drops.new.sink) (refusals_text t) (drops_text t)
    c.in_ok-write_refusals.ensures.ok c.in_ok-write_drops.ensures.ok in
    behind_one c.write_whole.result (held c.args.sink.now) (held c.write_drops.new.sink) (held c.write_whole.new.sink)
    (refusals_text t ++ drops_text t) (10 ∷ []) two c.write_whole.ensures.ok
