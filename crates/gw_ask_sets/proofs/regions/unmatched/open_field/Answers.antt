use Rattle.std.proofs.Common.{arith}
use Rattle.std.proofs.lemmas.List.Sums.{list_all-from_AllPass}
use Rattle.gw_rules.specs.Fields.{value_of}
use Rattle.gw_rules.specs.Rule.{ranges_of}
use Rattle.gw_rules.specs.declared.field.TheConstants.FieldName.{ALL}
use Rattle.gw_ask_sets.specs.regions.Coverage.{covers}
use Rattle.gw_ask_sets.proofs.regions_lemmas.CoverageLaw.{whole_law}
use Rattle.gw_ask_sets.proofs.regions.unmatched.open_field.Goals as goal

pub returns-clause-none : goal.returns-clause-none
returns-clause-none c = λ none ask there.
    whole_law c.args.rule.now c.args.region.now ask
    (list_all-from_AllPass (λ field. covers (value_of field c.args.region.now) (ranges_of field c.args.rule.now)) ALL
    (λ k d within. c.loop-field.invariant k d (omega (arith, within, c.loop-field-test.false)))) there
