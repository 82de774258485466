-- What the lines on rules say of asks.
use Rattle.std.specs.Prelude.{◌≡◌, ◌⊎◌, ℕ, ◌+◌, ◌<◌, ◌≤◌, true, false, List, [], ◌∷◌, Some}
use Rattle.gw_configuration.specs.Configuration.{Configuration}
use Rattle.gw_rules.specs.Ask.{Ask}
use Rattle.gw_rules.specs.Hides.{hides_from_network}
use Rattle.gw_rules.specs.Rule.{Matches}
use Rattle.gw_rules.specs.RuleList.{HasNumber, allows, first}
use Rattle.gw_rules.specs.declared.rule.Rule.{Rule}
use Rattle.gw_ask_sets.specs.shapes.Shape.{LiesIn, LiesInOne, Shape}
use Rattle.gw_ask_sets.specs.declared.shapes.search.Outcome.TheVariants as outcome
use Rattle.gw_ask_sets.specs.declared.shapes.side.Side.{Side}
use Rattle.gw_policy_review.specs.lint.Finding.{AreTrue}
use Rattle.gw_policy_review.specs.permissions.Allowances.{is_exception}
use Rattle.gw_policy_review.specs.permissions.Passing.{IsPassage, decides_all, finding_at, lets, may_allow, may_pass, reached}
use Rattle.gw_policy_review.specs.permissions.Permissions.{IsRead, grants_text}
use Rattle.gw_policy_review.specs.declared.lint.finding.Finding.{Finding}
use Rattle.gw_policy_review.specs.declared.lint.finding.Finding.TheVariants as finding
use Rattle.gw_policy_review.specs.declared.permissions.grants.Deed.{Deed}

-- a rule has a line: it may allow asks of the shape, and is one of those to which they come
pub record IsListed (shape : Shape) (rules : List Rule) (number : ℕ) : Type 0 where
  pub rule : Rule
  pub numbered : HasNumber rules number rule
  pub near : number ≤ reached shape rules
  pub allows : may_allow shape rule ≡ true

-- An ask of the shape that is allowed is allowed by a rule that has a line.
abbrev pub OnlyListedAllow : Type 0
OnlyListedAllow =
    (shape : Shape) (rules : List Rule) (ask : Ask) → LiesIn shape ask → allows rules ask ≡ true →
    (number : ℕ) × (first rules ask ≡ Some number) × IsListed shape rules number

-- If a line says that no rule lets anyone, no ask of the shape is allowed.
abbrev pub NoAskIsAllowed : Type 0
NoAskIsAllowed =
    (shape : Shape) (rules : List Rule) (ask : Ask) → may_pass shape rules ≡ false → LiesIn shape ask →
    allows rules ask ≡ false

-- If a line says that a rule lets everyone, the rule allows each ask of the shape.
abbrev pub EachAskIsAllowed : Type 0
EachAskIsAllowed =
    (shape : Shape) (rules : List Rule) (number : ℕ) (rule : Rule) (ask : Ask) → HasNumber rules number rule →
    may_allow shape rule ≡ true → decides_all shape rules number rule ≡ true → LiesIn shape ask →
    (first rules ask ≡ Some number) × (allows rules ask ≡ true)

-- ---- by the exact search

-- An ask of the shapes that is allowed is allowed by a rule that lets somebody, by what is found of the rules over these asks.
abbrev pub OnlyLettingAllow : Type 0
OnlyLettingAllow =
    (shapes : List Shape) (rules : List Rule) (left rest : ℕ) (findings : List Finding) (ask : Ask) →
    AreTrue shapes rules left rest findings → LiesInOne shapes ask → allows rules ask ≡ true →
    (number : ℕ) × (rule : Rule) × HasNumber rules number rule × (first rules ask ≡ Some number)
    × (lets rule (finding_at findings number) ≡ true)

-- If a line says that no rule lets anyone, no ask of the shape is allowed.
abbrev pub NoneIsLet : Type 0
NoneIsLet =
    (c : Configuration) (lines : List ℕ) (deed : Deed) (shape : Shape) (left rest : ℕ) (findings : List Finding) (ask : Ask) →
    AreTrue (shape ∷ []) c.rules left rest findings → grants_text c lines deed shape findings ≡ [] → LiesIn shape ask →
    allows c.rules ask ≡ false

-- If a line says that a rule lets some, it is the first to match an ask of the shapes, and allows it.
abbrev pub SomeAreAllowed : Type 0
SomeAreAllowed =
    (shapes : List Shape) (rules : List Rule) (left rest : ℕ) (findings : List Finding) (number : ℕ) (rule : Rule) (ask : Ask) →
    AreTrue shapes rules left rest findings → HasNumber rules number rule → finding_at findings number ≡ finding.Decides ask →
    rule.allow ≡ true → LiesInOne shapes ask × (first rules ask ≡ Some number) × (allows rules ask ≡ true)

-- An ask of the shapes that the rule of a line matches is allowed, unless a rule that the line names as an exception denies it.
abbrev pub OnlyExceptionsDeny : Type 0
OnlyExceptionsDeny =
    (shapes : List Shape) (rules : List Rule) (left rest : ℕ) (findings : List Finding) (number : ℕ) (rule : Rule) (ask : Ask) →
    AreTrue shapes rules left rest findings → HasNumber rules number rule → rule.allow ≡ true → LiesInOne shapes ask →
    Matches rule ask → allows rules ask ≡ false →
    (lower : ℕ) × (other : Rule) × (lower < number) × HasNumber rules lower other × (first rules ask ≡ Some lower)
    × (is_exception rule other (finding_at findings lower) ≡ true)

-- ---- objects

-- Of an object that the policy hides from every source of a network no read is found: it has its line, unless the search used up its
-- steps.
abbrev pub HiddenIsNotRead : Type 0
HiddenIsNotRead =
    (c : Configuration) (network kind instance left rest : ℕ) (property : Side) (ask : Ask) →
    hides_from_network c.rules network kind instance ≡ true →
    IsRead c network (record { kind = kind; instance = instance; property = property }) left rest (outcome.Decides ask) → ⊥

-- ---- steps

-- Of a search for a line or a note nothing is known only if it made 1,024 steps, or no step is left for the others.
abbrev pub OnlyUsedUpIsUnknown : Type 0
OnlyUsedUpIsUnknown =
    (shapes : List Shape) (rules : List Rule) (left rest : ℕ) → IsPassage shapes rules left rest outcome.Unknown →
    (left ≡ rest + 1024) ⊎ (rest ≡ 0)
