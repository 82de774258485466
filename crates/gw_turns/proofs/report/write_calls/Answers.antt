use Rattle.std.proofs.Common.{codes, ◌++◌}
use Rattle.std.proofs.KnownBytes.{Appends-trans}
use Rattle.gw_turns.proofs.ReportLemmas.{behind_one}
use Rattle.gw_turns.specs.Reports.{field}
use Rattle.gw_turns.proofs.report.write_calls.Goals as goal

pub returns-clause-ok : goal.returns-clause-ok
returns-clause-ok g c =
    let held = g.S.OctetSink.held in
    let r = c.args.report.now in
    let first = field (codes " sends=") r.sends in
    let second = field (codes " send_failures=") r.send_failures in
    let third = field (codes " receive_failures=") r.receive_failures in
    behind_one c.write_field-3.result (held c.args.sink.now) (held c.write_field-2.new.sink) (held c.write_field-3.new.sink) (first ++ second)
    third (Appends-trans (held c.args.sink.now) (held c.write_field.new.sink) (held c.write_field-2.new.sink) first second c.in_ok-write_field.ensures.ok
    c.in_ok-write_field-2.ensures.ok) c.write_field-3.ensures.ok
