use Rattle.std.proofs.Common.{codes}
use Rattle.gw_turns.specs.Reports.{field}
use Rattle.gw_turns.proofs.ReportLemmas.{behind_one}
use Rattle.gw_turns.proofs.report.write_announced.Goals as goal

pub returns-clause-ok : goal.returns-clause-ok
returns-clause-ok g c =
    let held = g.S.OctetSink.held in
    let a = c.args.announcing in
    behind_one c.write_field-2.result (held c.args.sink.now) (held c.write_field.new.sink) (held c.write_field-2.new.sink)
    (field (codes "stats announcements=") a.sends) (field (codes " announcement_failures=") a.send_failures) c.in_ok-write_field.ensures.ok
    c.write_field-2.ensures.ok
