use Rattle.gw_rule_index.specs.internal.Row.{admits_in}
use Rattle.gw_rule_index.proofs.field_index.FieldIndex.keep.Goals as goal

pub returns-clause-kept : goal.returns-clause-kept
returns-clause-kept c rules field test is marks =
    c.and.ensures.marks rules test (admits_in field c.args.value) marks (c.row-row.ensures.row rules field is)
