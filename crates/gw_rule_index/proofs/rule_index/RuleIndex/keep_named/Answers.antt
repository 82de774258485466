use Rattle.std.proofs.Common.{◌≡◌, ◌<◌, ap, arith, length, subst, sym, take, get_or, true, ◌∙◌}
use Rattle.gw_rules.specs.Fields.{value_of}
use Rattle.gw_rules.specs.declared.field.FieldName.{FieldName}
use Rattle.gw_rules.specs.declared.field.FieldName.TheVariants.{Operation}
use Rattle.gw_rule_index.specs.internal.Field.{IsIndexOf, has_bounds}
use Rattle.gw_rule_index.specs.internal.Row.{admits_all}
use Rattle.gw_rule_index.proofs.Fields.{marks_more, few_comparisons, comparisons_more, ones_more}
use Rattle.gw_rule_index.proofs.Named.{few_named, named_has_bounds}
use Rattle.gw_rule_index.proofs.rule_index.RuleIndex.keep_named.Goals as goal

pub keep-requires-clause-comparisons : goal.keep-requires-clause-comparisons
keep-requires-clause-comparisons c =
    omega (arith, few_named c.args.self.now.fields, c.loop-field-test.true, c.loop-field.invariant.most)

pub keep-requires-clause-ands : goal.keep-requires-clause-ands
keep-requires-clause-ands c =
    omega (arith, few_named c.args.self.now.fields, c.loop-field-test.true, c.loop-field.invariant.ands)

pub loop-field-preserved : goal.loop-field-preserved
loop-field-preserved c =
    let now = c.loop-field.invariant in
    let inside : c.loop-field.field-index < length c.args.self.now.fields.named.items = subst (λ fields. c.loop-field.field-index < length fields) c.deref-field-items.ensures.value c.loop-field-test.true in
    let value = c.get-value.ensures ∙ ap (λ fields. value_of (get_or fields c.loop-field.field-index Operation) c.args.ask.now) c.deref-field-items.ensures.value in
    let index = c.get-index.ensures ∙ ap (λ fields. value_of (get_or fields c.loop-field.field-index Operation) c.args.self.now.fields.each) c.deref-field-items.ensures.value in
    let field : FieldName = get_or c.args.self.now.fields.named.items c.loop-field.field-index Operation in
    let few = few_comparisons c.get-value.result.now in
    record {
      row = λ rules built every.
          marks_more c.keep.new.kept.words rules c.args.ask.now c.args.self.now.fields.named.items c.loop-field.field-index Operation c.get-value.result.now inside value
          (c.keep.ensures.kept rules field (admits_all c.args.ask.now (take c.loop-field.field-index c.args.self.now.fields.named.items))
          (subst (λ index. IsIndexOf rules field index) (sym index) (built.fields field))
          (now.row rules built every));
      each_field =
          let more = comparisons_more c.args.ask.now c.args.self.now.fields.named.items c.loop-field.field-index Operation c.get-value.result.now inside value in
          omega (arith, more, c.keep.ensures.comparisons, now.each_field);
      most = omega (arith, few, c.keep.ensures.comparisons, now.most);
      least =
          let more = ones_more c.args.ask.now c.args.self.now.fields.named.items c.loop-field.field-index Operation c.get-value.result.now inside value in
          let has = subst (λ index. has_bounds index ≡ true) (sym index) (named_has_bounds c.args.self.now.fields c.loop-field.field-index Operation inside) in
          omega (arith, more, c.keep.ensures.some has, now.least);
      ands = omega (arith, c.keep.ensures.ands, now.ands);
    }
