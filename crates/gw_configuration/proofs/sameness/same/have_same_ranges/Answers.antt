use Rattle.std.proofs.Common.{◌≡◌, arith, refl}
use Rattle.gw_rules.specs.Fields.{value_of}
use Rattle.gw_rules.proofs.EachField.{fields_alike}
use Rattle.gw_configuration.proofs.sameness_lemmas.RangesLaw.{each_place}
use Rattle.gw_configuration.proofs.sameness.same.have_same_ranges.Goals as goal

pub returns : goal.returns
returns c = (
  λ e.
      let one = c.args.ranges.now in
      let two = c.args.other.now in
      fields_alike one two (each_place (λ f. value_of f one ≡ value_of f two)
      (λ k d within. c.loop-field.invariant k d (omega (arith, within, c.loop-field-test.false)))),
  λ one. refl,
)
