use Rattle.std.proofs.Common.{subst, sym, arith, Some}
use Rattle.gw_rule_index.specs.internal.Bounds.{AreSearchable, IsPlace}
use Rattle.gw_rule_index.specs.internal.Row.{Marks, admits_in}
use Rattle.gw_rule_index.proofs.field_index.FieldIndex.row.Goals as goal

pub returns-in-Some-clause-row : goal.returns-in-Some-clause-row
returns-in-Some-clause-row c rules field is =
    let place = c.place_of.ensures.place (subst AreSearchable (sym c.deref.ensures.value) is.searchable) in
    let marks = is.found c.in-Some.value c.place_of.result c.index.result.now (omega arith) (omega (arith, c.deref.ensures.len)) (subst (λ bounds. IsPlace bounds c.in-Some.value c.place_of.result) c.deref.ensures.value place) in
    subst (λ value. Marks c.index.result.now.words (admits_in field value) rules) (sym c.in-Some.is)
    (subst (λ row. Marks row.words (admits_in field (Some c.in-Some.value)) rules) (sym c.index.ensures) marks)

pub returns-in-None-clause-row : goal.returns-in-None-clause-row
returns-in-None-clause-row c rules field is =
    subst (λ value. Marks c.args.self.now.absent.words (admits_in field value) rules) (sym c.in-None.is) is.absent
