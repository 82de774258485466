use Rattle.std.proofs.Common.{◌≡◌, ◌++◌, take}
use Rattle.std.specs.List.{flat_map}
use Rattle.gw_rules.specs.declared.field.TheConstants.FieldName.{ALL}
use Rattle.gw_report.specs.Report.{field_code}
use Rattle.gw_report.proofs.rules.put_each_field.Given as goal

abbrev pub invariant-loop-field : goal.invariant-loop-field
invariant-loop-field l = l.page ≡ l.fn.page ++ flat_map (field_code l.rule) (take l.field-index ALL)
