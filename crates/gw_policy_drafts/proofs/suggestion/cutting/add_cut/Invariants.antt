use Rattle.std.proofs.Common.{◌≡◌, ◌||◌, length}
use Rattle.gw_rules.specs.Ask.{Ask}
use Rattle.gw_rules.specs.Fields.{with_value}
use Rattle.gw_policy_drafts.specs.suggestion.Own.{covered, covers}
use Rattle.gw_policy_drafts.proofs.suggestion.cutting.add_cut.Given as goal

abbrev pub invariant-loop-rest : goal.invariant-loop-rest
invariant-loop-rest l = (ask : Ask) →
    (covered l.done.items ask || covers (with_value l.field l.rest l.group) ask)
    ≡ (covered l.fn.done.items ask || covers l.group ask)

-- each turn leaves fewer ranges
abbrev pub decreases-loop-rest : goal.decreases-loop-rest
decreases-loop-rest l = length l.rest
