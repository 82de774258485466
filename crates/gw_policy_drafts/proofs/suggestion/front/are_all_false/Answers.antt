use Rattle.std.proofs.Common.{false}
use Rattle.gw_policy_drafts.proofs.suggestion_lemmas.FrontLaw.{each_step}
use Rattle.gw_policy_drafts.proofs.suggestion.front.are_all_false.Goals as goal

pub loop-flag-preserved : goal.loop-flag-preserved
loop-flag-preserved c =
    each_step c.args.flags.now c.loop-flag.flag-index _ false c.loop-flag-test.true c.if-flag.false c.loop-flag.invariant
