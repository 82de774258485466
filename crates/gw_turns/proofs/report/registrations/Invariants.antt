use Rattle.std.proofs.Common.{◌≡◌, ◌*◌, ◌≤◌, take}
use Rattle.gw_tables.specs.declared.bdt_fdt.fdt.TheConstants.{MAX_REGISTRATIONS}
use Rattle.gw_turns.specs.Reports.{registrations}
use Rattle.gw_turns.proofs.report.registrations.Given as goal

abbrev pub invariant-loop-state : goal.invariant-loop-state
invariant-loop-state l = record {
  counted : l.count ≡ registrations (take l.state-index l.ports);
  few : l.count ≤ l.state-index * MAX_REGISTRATIONS;
}
