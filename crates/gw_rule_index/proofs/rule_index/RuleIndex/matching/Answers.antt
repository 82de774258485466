use Rattle.std.proofs.Common.{ap, arith, length, ◌∙◌}
use Rattle.std.specs.List.{sum_by}
use Rattle.std.proofs.lemmas.List.Sums.{length-filter}
use Rattle.gw_rules.specs.Fields.{value_of}
use Rattle.gw_rules.specs.Range.{admits}
use Rattle.gw_rules.specs.Rule.{matches}
use Rattle.gw_rules.specs.declared.field.TheConstants.FieldName.{ALL}
use Rattle.gw_rule_index.specs.Comparisons.{is_named, most_comparisons, most_comparisons_in, one_comparison}
use Rattle.gw_rule_index.specs.internal.Row.{admits_all, admits_in}
use Rattle.gw_rule_index.proofs.Fields.{marks_same}
use Rattle.gw_rule_index.proofs.Named.{all_kept, few_named, named_fields_are, sum_fewer, sum_named}
use Rattle.gw_rule_index.proofs.rule_index.RuleIndex.matching.Goals as goal

pub returns-clause-row : goal.returns-clause-row
unfolding matches
returns-clause-row c rules built =
    marks_same c.keep_named.new.row.words (admits_all c.args.ask.now c.args.self.now.fields.named.items) (λ rule. matches rule c.args.ask.now) rules
    (λ rule there.
    ap (λ fields. admits_all c.args.ask.now fields rule) (named_fields_are rules c.args.self.now.fields built.fields)
    ∙ all_kept (is_named rules) (λ field. admits_in field (value_of field c.args.ask.now) rule) ALL
    (λ field none. ap (λ ranges. admits ranges (value_of field c.args.ask.now)) ((built.fields field).unnamed ((built.fields field).skipped none) rule there)))
    (c.keep_named.ensures.row rules built built.every)

pub returns-clause-each_field : goal.returns-clause-each_field
returns-clause-each_field c =
    let fewer = sum_fewer c.args.self.now.fields (λ field. most_comparisons (value_of field c.args.ask.now)) in
    omega (arith, c.keep_named.ensures.each_field, fewer)

pub returns-clause-comparisons : goal.returns-clause-comparisons
returns-clause-comparisons c =
    omega (arith, c.keep_named.ensures.comparisons, few_named c.args.self.now.fields)

pub returns-clause-named : goal.returns-clause-named
returns-clause-named c rules built =
    let named = ap (most_comparisons_in c.args.ask.now) (named_fields_are rules c.args.self.now.fields built.fields) in
    let sum = sum_named (is_named rules) (λ field. most_comparisons (value_of field c.args.ask.now)) ALL in
    omega (arith, c.keep_named.ensures.each_field, named, sum)

pub returns-clause-least : goal.returns-clause-least
returns-clause-least c rules built =
    let named = ap (sum_by (λ field. one_comparison (value_of field c.args.ask.now))) (named_fields_are rules c.args.self.now.fields built.fields) in
    let sum = sum_named (is_named rules) (λ field. one_comparison (value_of field c.args.ask.now)) ALL in
    omega (arith, c.keep_named.ensures.least, named, sum)

pub returns-clause-ands : goal.returns-clause-ands
returns-clause-ands c =
    omega (arith, c.keep_named.ensures.ands, few_named c.args.self.now.fields)

pub returns-clause-joins : goal.returns-clause-joins
returns-clause-joins c rules built =
    c.keep_named.ensures.ands ∙ ap length (named_fields_are rules c.args.self.now.fields built.fields) ∙ length-filter (is_named rules) ALL
