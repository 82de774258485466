use Rattle.std.proofs.Common.{List, length, rules, ◌≡◌, ◌≤◌, ◌<◌, ◌+◌, ap, arith, drop, get_or, subst}
use Rattle.std.proofs.lemmas.List.{drop_all}
use Rattle.gw_rules.specs.declared.field.FieldName.{FieldName}
use Rattle.gw_rules.specs.declared.field.TheConstants.FieldName.{ALL}
use Rattle.gw_ask_sets.specs.regions.internal.Crowding.{miss_sum}
use Rattle.gw_ask_sets.proofs.regions_lemmas.CrowdingLaw.{crowded, few_at, sum_step}
use Rattle.gw_ask_sets.proofs.regions.crowding.are_too_many.Goals as goal

pub loop-field-init : goal.loop-field-init
loop-field-init c = λ ask there. omega arith

pub loop-field-preserved : goal.loop-field-preserved
loop-field-preserved c = λ ask there.
    let all = c.args.rules.now in
    let places = c.args.places.now in
    let region = c.args.region.now in
    let index = c.loop-field.field-index in
    let few = few_at all places region ask _ _ c.most_of.result c.get.ensures c.most_of.ensures there in
    let grown : c.in-Some.more ≡ c.most_of.result + c.loop-field.sum = search rules in
    sum_step all places ask ALL index _ c.loop-field.sum c.most_of.result c.in-Some.more c.loop-field-test.true few grown
    (c.loop-field.invariant ask there)

pub returns : goal.returns
returns c = λ t ask there.
    let all = c.args.rules.now in
    let places = c.args.places.now in
    let ends : length ALL ≤ c.loop-field.field-index = search rules in
    let none = ap (λ (fs : List FieldName). miss_sum all places fs ask) (drop_all c.loop-field.field-index ALL ends) in
    let before = c.loop-field.invariant ask there in
    let more : c.loop-field.sum < length places = search rules in
    crowded all places ask c.loop-field.sum (omega (arith, before, none)) more
