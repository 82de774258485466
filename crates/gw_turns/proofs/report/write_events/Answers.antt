use Rattle.std.proofs.Common.{codes, ◌++◌}
use Rattle.std.proofs.KnownBytes.{Appends-trans}
use Rattle.gw_turns.proofs.ReportLemmas.{behind_one}
use Rattle.gw_turns.specs.Reports.{field}
use Rattle.gw_turns.proofs.report.write_events.Goals as goal

pub returns-clause-ok : goal.returns-clause-ok
returns-clause-ok g c =
    let held = g.S.OctetSink.held in
    let r = c.args.report.now in
    let first = field (codes "stats seconds=") r.seconds in
    let second = field (codes " datagrams=") r.datagrams in
    let third = field (codes " memory_drops=") r.memory_drops in
    let fourth = field (codes " denials=") r.denials in
    let two = Appends-trans (held c.args.sink.now) (held c.write_field.new.sink) (held c.write_field-2.new.sink) first second
    c.in_ok-write_field.ensures.ok c.in_ok-write_field-2.ensures.ok in
    let three = Appends-trans (held c.args.sink.now) (held c.write_field-2.new.sink) (held c.write_field-3.new.sink) (first ++ second) third
    two c.in_ok-write_field-3.ensures.ok in
    behind_one c.write_field-4.result (held c.args.sink.now) (held c.write_field-3.new.sink) (held c.write_field-4.new.sink)
    (first ++ second ++ third) fourth three c.write_field-4.ensures.ok
