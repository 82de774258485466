use Rattle.std.proofs.Common.{◌≡◌, ◌*◌, ◌≤◌, take}
use Rattle.gw_tables.specs.declared.bdt_fdt.bdt.TheConstants.{MAX_ENTRIES}
use Rattle.gw_turns.specs.Reports.{peer_count}
use Rattle.gw_turns.proofs.report.peer_count.Given as goal

abbrev pub invariant-loop-state : goal.invariant-loop-state
invariant-loop-state l = record {
  counted : l.count ≡ peer_count (take l.state-index l.ports);
  few : l.count ≤ l.state-index * MAX_ENTRIES;
}
