-- A rule of which it is found that it decides nothing decides no ask of any event.
use Rattle.std.proofs.Common.{◌≡◌, ℕ, true, List}
use Rattle.gw_rules.specs.RuleList.{HasNumber}
use Rattle.gw_rules.specs.declared.rule.Rule.{Rule}
use Rattle.gw_rules.proofs.First.{first_iff}
use Rattle.gw_ask_sets.specs.shapes.Search.{IsNeverFirst}
use Rattle.gw_ask_sets.specs.shapes.Shape.{Shape}
use Rattle.gw_ask_sets.specs.shapes.Shapes.{shapes}
use Rattle.gw_ask_sets.proofs.shapes_lemmas.Narrowing.{deciding_rule}
use Rattle.gw_policy_review.specs.lint.Finding.{Finds}
use Rattle.gw_policy_review.specs.declared.lint.finding.Finding.{Finding}
use Rattle.gw_policy_review.specs.declared.lint.finding.Finding.TheVariants as finding
use Rattle.gw_verdicts.specs.Laws.{FoundNeverDecides, says_never}
use Rattle.gw_verdicts.proofs.ShapeLaw.{never_first_never_decides}

never_first : (boxes : List Shape) (rules : List Rule) (number : ℕ) (rule : Rule) (found : Finding) → HasNumber rules number rule
    → says_never found ≡ true → Finds boxes rules number rule found → IsNeverFirst boxes rules number
never_first boxes rules number rule finding.MatchesNothing has never nothing ask lies is =
    nothing ask lies (deciding_rule rules number rule ask has.there is)
never_first boxes rules number rule (finding.TakenBy by) has never (met, taken) ask lies is =
    let deciding = (first_iff rules ask number).0 is in
    deciding.least by taken.earlier taken.before taken.numbered (taken.takes ask lies (deciding_rule rules number rule ask has.there is))
never_first boxes rules number rule finding.TakenTogether has never (met, none, unasked) ask lies is = unasked ask lies is
never_first boxes rules number rule (finding.Decides other) has never translates ask lies is = absurd cc
never_first boxes rules number rule finding.Unknown has never translates ask lies is = absurd cc

pub found_never_decides : FoundNeverDecides
found_never_decides c number rule found has never translates =
    never_first_never_decides c number (never_first (shapes c) c.rules number rule found has never translates)
