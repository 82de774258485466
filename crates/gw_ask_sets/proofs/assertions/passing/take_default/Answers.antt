use Rattle.gw_ask_sets.proofs.assertions_lemmas.PassingLaw.{allowed_none, denied_none, denied_one}
use Rattle.gw_ask_sets.proofs.assertions.passing.take_default.Goals as goal

pub returns-then-says-clause-nothing : goal.returns-then-says-clause-nothing
returns-then-says-clause-nothing c = λ e passed is ask lies.
    allowed_none c.args.says c.args.regions.items c.args.opposed.now passed ask c.if-says.true is lies

pub returns-clause-nothing : goal.returns-clause-nothing
returns-clause-nothing c = λ e passed is ask lies.
    denied_none c.args.says c.args.regions.items c.args.opposed.now passed ask c.if-says.false (c.search_unmatched.ensures.nothing e) is lies

pub returns-clause-decided : goal.returns-clause-decided
returns-clause-decided c = λ ask e passed is.
    denied_one c.args.says c.args.regions.items c.args.opposed.now passed ask c.if-says.false (c.search_unmatched.ensures.found ask e) is
