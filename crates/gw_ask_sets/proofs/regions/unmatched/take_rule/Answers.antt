use Rattle.gw_ask_sets.proofs.regions_lemmas.UnmatchedLaw.{is_open, one_matches}
use Rattle.gw_ask_sets.proofs.regions.unmatched.take_rule.Goals as goal

pub returns-in-All : goal.returns-in-All
returns-in-All c = λ before.
    one_matches c.args.rules.now c.args.region.now c.args.place c.index-rules-place.result c.requires c.index-rules-place.is
    (c.coverage_of.ensures.whole c.in-All.is)

pub returns-in-Some : goal.returns-in-Some
returns-in-Some c = λ before.
    is_open c.args.rules.now c.args.region.now c.args.place c.index-rules-place.result c.in-Some.field c.requires c.index-rules-place.is
    (c.coverage_of.ensures.perhaps c.in-Perhaps.is) c.in-Some.ensures.some

pub returns-in-None : goal.returns-in-None
returns-in-None c = λ before.
    one_matches c.args.rules.now c.args.region.now c.args.place c.index-rules-place.result c.requires c.index-rules-place.is
    (c.open_field.ensures.none c.in-None.is)
