use Rattle.std.proofs.Common.{◌+◌, ap, arith, sym}
use Rattle.std.specs.Option.{option_map}
use Rattle.gw_rule_index.proofs.Rows.{first_marked, none_marked}
use Rattle.gw_rule_index.proofs.row.Row.first.Goals as goal

pub returns-then-word-ne0-clause-first : goal.returns-then-word-ne0-clause-first
returns-then-word-ne0-clause-first c rules test few marks =
    sym (ap (option_map (λ place. place + 1))
    (first_marked c.args.self.now.words test rules c.loop-place.place c.lowest.result c.loop-place-test.true c.lowest.ensures.within c.lowest.ensures.set c.lowest.ensures.clear c.loop-place.invariant marks))

pub returns-clause-first : goal.returns-clause-first
returns-clause-first c rules test few marks =
    sym (ap (option_map (λ place. place + 1))
    (none_marked c.args.self.now.words test rules few (λ k word. c.loop-place.invariant k (omega arith)) marks))
