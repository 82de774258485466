use Rattle.std.proofs.Common.{◌≡◌, ◌++◌, drop}
use Rattle.gw_rules.specs.declared.field.TheConstants.FieldName.{ALL}
use Rattle.gw_ask_sets.specs.regions.Regions.{inside, pieces}
use Rattle.gw_ask_sets.proofs.regions.region.part_fields.Given as goal

abbrev pub invariant-loop-field : goal.invariant-loop-field
invariant-loop-field l = record {
  pieces : l.out.items ++ pieces (drop l.field-index ALL) l.rule l.region ≡ l.fn.out.items ++ pieces ALL l.rule l.fn.region;
  inside : inside (drop l.field-index ALL) l.rule l.region ≡ inside ALL l.rule l.fn.region;
}
