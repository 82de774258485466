use Rattle.std.proofs.Common.{◌≡◌, drop}
use Rattle.gw_tables.specs.bdt_fdt.Kept.{repeat_address}
use Rattle.gw_tables.proofs.bdt_fdt.kept.repeat_address.Given as goal

-- what is left repeats an address if the whole does
abbrev pub invariant-loop-place : goal.invariant-loop-place
invariant-loop-place l = repeat_address (drop l.place l.devices) ≡ repeat_address l.devices
