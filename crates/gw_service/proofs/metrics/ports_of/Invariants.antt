use Rattle.std.proofs.Common.{◌≡◌, take}
use Rattle.arrayvec.specs.ArrayVec.{array_vec_len}
use Rattle.gw_service.specs.Metrics.{counts_from}
use Rattle.gw_service.proofs.metrics.ports_of.Given as goal

abbrev pub invariant-loop-place : goal.invariant-loop-place
invariant-loop-place l = record {
  counted : l.counts.items ≡ counts_from l.report 0 (take l.place l.ports);
  len : array_vec_len l.counts ≡ l.place;
}
