use Rattle.std.proofs.Common.{codes}
use Rattle.gw_turns.proofs.ReportLemmas.{behind_one}
use Rattle.gw_turns.specs.Reports.{field}
use Rattle.gw_turns.proofs.report.write_failing.Goals as goal

pub returns-clause-ok : goal.returns-clause-ok
returns-clause-ok g c =
    let held = g.S.OctetSink.held in
    behind_one c.write_whole.result (held c.args.sink.now) (held c.write_field.new.sink) (held c.write_whole.new.sink)
    (field (codes "port ") c.args.number) (codes ": sends fail\n") c.in_ok-write_field.ensures.ok c.write_whole.ensures.ok
