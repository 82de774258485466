use Rattle.std.proofs.Common.{◌∙◌, ◌≤◌, ap, arith, Some}
use Rattle.std.specs.List.{list_any}
use Rattle.gw_rules.specs.Fields.{value_of}
use Rattle.gw_rules.specs.Range.{holds}
use Rattle.gw_ask_sets.specs.regions.Regions.{Region}
use Rattle.gw_ask_sets.specs.regions.Values.{has}
use Rattle.gw_ask_sets.specs.declared.regions.values.Values.{Values}
use Rattle.gw_ask_sets.proofs.regions_lemmas.Growing.{last_end, last_step}
use Rattle.gw_ask_sets.proofs.regions.meeting.last_for.Goals as goal

pub loop-shape-preserved : goal.loop-shape-preserved
loop-shape-preserved c =
    let field = c.args.field in
    let before : c.args.given ≤ c.loop-shape.last = c.loop-shape.invariant.least in
    let more : c.loop-shape.last ≤ c.last_of-last.result = c.last_of-last.ensures.least in
    record {
      least = omega arith;
      all = last_step (λ n shape. has (value_of field shape) (Some n)) c.args.shapes.now c.loop-shape.shape-index _ c.loop-shape.last c.last_of-last.result
          c.loop-shape-test.true more
          (λ n t. c.last_of-last.ensures.all n
          (ap (list_any (holds n)) (c.as_slice.ensures ∙ ap (λ (v : Values). v.ranges) c.get.ensures)
          ∙ ap (λ (s : Region). has (value_of field s) (Some n)) c.shape-item.is ∙ t))
          c.loop-shape.invariant.all;
    }

pub returns-clause-all : goal.returns-clause-all
returns-clause-all c =
    last_end (λ n shape. has (value_of c.args.field shape) (Some n)) c.args.shapes.now c.loop-shape.shape-index c.loop-shape.last
    c.loop-shape-test.false c.loop-shape.invariant.all
