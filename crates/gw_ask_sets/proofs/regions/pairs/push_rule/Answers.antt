use Rattle.gw_ask_sets.proofs.regions_lemmas.PairLaw.{pushed}
use Rattle.gw_ask_sets.proofs.regions.pairs.push_rule.Goals as goal

pub returns : goal.returns
returns c = λ ask.
    pushed c.args.front.now.items c.push.new.self.items c.args.rule.now c.in_ok-tidy.tidy ask c.in_ok-push.ensures.items c.in_ok-tidy.ensures
