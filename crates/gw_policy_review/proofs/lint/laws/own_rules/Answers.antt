use Rattle.std.proofs.Common.{refl}
use Rattle.gw_policy_review.specs.lint.Text.{OwnRulesAreSaid}
use Rattle.gw_policy_review.proofs.lint.laws.own_rules.Goals as goal

own_said : OwnRulesAreSaid
own_said c findings number found own = rw own refl

pub returns : goal.returns
returns c = own_said
