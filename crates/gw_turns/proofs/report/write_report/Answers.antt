use Rattle.std.proofs.Common.{◌++◌}
use Rattle.std.proofs.KnownBytes.{Appends-trans}
use Rattle.gw_turns.proofs.ReportLemmas.{behind_one}
use Rattle.gw_turns.specs.Reports.{calls_text, events_text, report_line, tables_text, tally_text}
use Rattle.gw_turns.proofs.report.write_report.Goals as goal

pub returns-clause-ok : goal.returns-clause-ok
unfolding report_line
returns-clause-ok g c =
    let held = g.S.OctetSink.held in
    let r = c.args.report.now in
    let two = Appends-trans (held c.args.sink.now) (held c.write_events.new.sink) (held c.write_calls.new.sink) (events_text r) (calls_text r)
    c.in_ok-write_events.ensures.ok c.in_ok-write_calls.ensures.ok in
    let three = Appends-trans (held c.args.sink.now) (held c.write_calls.new.sink) (held c.write_tables.new.sink) (events_text r ++ calls_text r)
    (tables_text r) two c.in_ok-write_tables.ensures.ok in
    behind_one c.write_tally.result (held c.args.sink.now) (held c.write_tables.new.sink) (held c.write_tally.new.sink)
    (events_text r ++ calls_text r ++ tables_text r) (tally_text r.tally) three c.write_tally.ensures.ok
