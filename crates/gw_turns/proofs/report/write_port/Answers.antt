use Rattle.std.proofs.Common.{codes, ◌++◌}
use Rattle.gw_turns.proofs.ReportLemmas.{behind_one}
use Rattle.gw_turns.specs.Reports.{field}
use Rattle.gw_turns.proofs.report.write_port.Goals as goal

pub returns-clause-ok : goal.returns-clause-ok
returns-clause-ok g c =
    let held = g.S.OctetSink.held in
    let t = c.args.tally in
    let s = c.args.sends in
    let r = c.write_whole.result in
    let one = held c.write_field.new.sink in
    let two = held c.write_field-2.new.sink in
    let three = held c.write_field-3.new.sink in
    let four = held c.write_field-4.new.sink in
    let five = held c.write_field-5.new.sink in
    let last = held c.write_whole.new.sink in
    let of_failures = field (codes " send_failures=") s.failures ++ codes "\n" in
    let of_sends = field (codes " sends=") s.sends ++ of_failures in
    let of_drops = field (codes " dropped=") t.drops ++ of_sends in
    let of_datagrams = field (codes " datagrams=") t.datagrams ++ of_drops in
    behind_one r (held c.args.sink.now) one last (field (codes "stats port=") c.args.number) of_datagrams c.in_ok-write_field.ensures.ok
    (behind_one r one two last (field (codes " datagrams=") t.datagrams) of_drops c.in_ok-write_field-2.ensures.ok
    (behind_one r two three last (field (codes " dropped=") t.drops) of_sends c.in_ok-write_field-3.ensures.ok
    (behind_one r three four last (field (codes " sends=") s.sends) of_failures c.in_ok-write_field-4.ensures.ok
    (behind_one r four five last (field (codes " send_failures=") s.failures) (codes "\n") c.in_ok-write_field-5.ensures.ok
    c.write_whole.ensures.ok))))
