use Rattle.std.proofs.Common.{◌≡◌, ◌+◌, length}
use Rattle.gw_rule_index.specs.internal.Field.{HasRows}
use Rattle.gw_rule_index.proofs.field_build.rows_of.Given as goal

abbrev pub invariant-loop-number : goal.invariant-loop-number
invariant-loop-number l = record {
  len : length l.rows.items ≡ l.number-index + 1;
  rows : HasRows l.rules l.field l.numbers l.rows.items;
}
