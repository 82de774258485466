use Rattle.std.proofs.Common.{arith, sym, ◌∙◌, refl, inl, inr}
use Rattle.std.proofs.lemmas.Bool.{cases_lt, ltb-true, ltb-false}
use Rattle.gw_rule_index.proofs.Halving.{room_halves, nears_start, nears_lower, nears_upper}
use Rattle.gw_rule_index.proofs.search.place_of.Goals as goal
use Rattle.gw_rule_index.proofs.search.place_of.Goals.{then-above, else-above}

pub loop-step-init : goal.loop-step-init
loop-step-init c = record {
  nears = nears_start c.args.bounds.now c.args.value;
  comparisons = omega arith;
  stays = omega arith;
  starts = λ e. (refl, refl);
  some = λ past there. absurd (omega arith);
  ands = refl;
}

-- the ends have met, after a comparison if there is a bound
pub returns-then-low-high-clause-some : goal.returns-then-low-high-clause-some
returns-then-low-high-clause-some c there = elim (cases_lt 0 c.loop-step._step) [
  | inl later ↦ c.loop-step.invariant.some later there
  | inr first ↦
      let at = c.loop-step.invariant.starts (omega (arith, first)) in
      absurd (omega (arith, at.0, at.1, there, c.if-low-high.true))
]

pub loop-step-preserved : goal.loop-step-preserved
loop-step-preserved c =
    let n = c.loop-step.invariant.nears in
    let two = room_halves c.loop-step._step c.loop-step-test.true in
    elim c.if-above.branch [
      | then-above w ↦ record {
        nears = rw (w.low-is, w.high-is) (nears_lower c.args.bounds.now c.args.value c.loop-step.low c.loop-step.high _ _ _ n two c.if-low-high.false (ltb-true _ _ (sym c.above.ensures.above ∙ w.if-above.true)));
        comparisons = omega (arith, c.above.ensures.comparisons, c.loop-step.invariant.comparisons);
        stays = omega (arith, c.above.ensures.comparisons, c.loop-step.invariant.stays);
        starts = λ e. absurd (omega (arith, e));
        some = λ past there. omega (arith, c.above.ensures.comparisons, c.loop-step.invariant.stays);
        ands = c.above.ensures.ands ∙ c.loop-step.invariant.ands;
      }
      | else-above w ↦ record {
        nears = rw (w.low-is, w.high-is) (nears_upper c.args.bounds.now c.args.value c.loop-step.low c.loop-step.high _ _ _ n two c.if-low-high.false (ltb-false _ _ (sym c.above.ensures.above ∙ w.if-above.false)));
        comparisons = omega (arith, c.above.ensures.comparisons, c.loop-step.invariant.comparisons);
        stays = omega (arith, c.above.ensures.comparisons, c.loop-step.invariant.stays);
        starts = λ e. absurd (omega (arith, e));
        some = λ past there. omega (arith, c.above.ensures.comparisons, c.loop-step.invariant.stays);
        ands = c.above.ensures.ands ∙ c.loop-step.invariant.ands;
      }
    ]
