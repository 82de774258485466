use Rattle.std.proofs.Common.{codes, ◌++◌}
use Rattle.std.specs.Prelude.{slice_index}
use Rattle.gw_turns.proofs.ReportLemmas.{behind_one}
use Rattle.gw_turns.specs.Reports.{field}
use Rattle.gw_turns.proofs.report.write_address.Goals as goal

pub returns-clause-ok : goal.returns-clause-ok
returns-clause-ok g c =
    let held = g.S.OctetSink.held in
    let a = c.args.address in
    let r = c.write_field-5.result in
    let one = held c.write_field.new.sink in
    let two = held c.write_field-2.new.sink in
    let three = held c.write_field-3.new.sink in
    let four = held c.write_field-4.new.sink in
    let last = held c.write_field-5.new.sink in
    let d = field (codes ".") (slice_index a.ip 3) ++ field (codes ":") a.udp in
    let cd = field (codes ".") (slice_index a.ip 2) ++ d in
    let bcd = field (codes ".") (slice_index a.ip 1) ++ cd in
    behind_one r (held c.args.sink.now) one last (field (codes "") (slice_index a.ip 0)) bcd c.in_ok-write_field.ensures.ok
    (behind_one r one two last (field (codes ".") (slice_index a.ip 1)) cd c.in_ok-write_field-2.ensures.ok
    (behind_one r two three last (field (codes ".") (slice_index a.ip 2)) d c.in_ok-write_field-3.ensures.ok
    (behind_one r three four last (field (codes ".") (slice_index a.ip 3)) (field (codes ":") a.udp) c.in_ok-write_field-4.ensures.ok
    c.write_field-5.ensures.ok)))
