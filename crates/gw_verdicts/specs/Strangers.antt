-- What `explain` says of strangers and of claims is true of every event.
use Rattle.std.specs.Prelude.{◌≡◌, ℕ, ◌-◌, ◌≤◌, true, false, length, Some, slice_get}
use Rattle.gw_configuration.specs.Configuration.{Configuration}
use Rattle.gw_configuration.specs.declared.port.Port.{Port}
use Rattle.gw_policy_review.specs.permissions.Passing.{decides_all, may_allow, may_pass}
use Rattle.gw_policy_review.specs.permissions.Questions.{claiming, entering}
use Rattle.gw_rules.specs.Ask.{Ask, IsFor}
use Rattle.gw_rules.specs.RuleList.{HasNumber, allows}
use Rattle.gw_rules.specs.declared.format.Format.TheVariants.{Three}
use Rattle.gw_rules.specs.declared.operation.Operation.TheVariants.{Enter, Claim}
use Rattle.gw_rules.specs.declared.rule.Rule.{Rule}
use Rattle.gw_ask_sets.specs.shapes.Shape.{LiesIn}
use Rattle.gw_verdicts.specs.Laws.{OfEachAsk}

-- the port of a number, counted from 1
abbrev pub HasPort : Configuration → ℕ → Port → Type 0
HasPort c number port = slice_get c.ports (number - 1) ≡ Some port

-- an ask to enter by the port of this number
pub record EntersBy (number : ℕ) (ask : Ask) : Type 0 where
  pub enters : IsFor Enter ask
  pub by : ask.port ≡ Some number

-- Each ask to enter by a port lies in the shape of which the lines of that port are.
abbrev pub StrangersAreAsked : Type 0
StrangersAreAsked = (c : Configuration) (number : ℕ) (port : Port) → c.format ≡ Three → 1 ≤ number → HasPort c number port →
    OfEachAsk c (λ ask. EntersBy number ask → LiesIn (entering number port.network) ask)

-- If a line says that no rule lets a stranger enter by a port, no ask to enter by it is allowed, whatever comes.
abbrev pub NoStrangerEnters : Type 0
NoStrangerEnters = (c : Configuration) (number : ℕ) (port : Port) → c.format ≡ Three → 1 ≤ number → HasPort c number port →
    may_pass (entering number port.network) c.rules ≡ false →
    OfEachAsk c (λ ask. EntersBy number ask → allows c.rules ask ≡ false)

-- If a line says that a rule lets every stranger enter by it, each is allowed.
abbrev pub EveryStrangerEnters : Type 0
EveryStrangerEnters = (c : Configuration) (number : ℕ) (port : Port) (by : ℕ) (rule : Rule) → c.format ≡ Three → 1 ≤ number →
    HasPort c number port → HasNumber c.rules by rule → may_allow (entering number port.network) rule ≡ true →
    decides_all (entering number port.network) c.rules by rule ≡ true →
    OfEachAsk c (λ ask. EntersBy number ask → allows c.rules ask ≡ true)

-- Each ask to speak for another network lies in the shape of which the lines on claims are.
abbrev pub ClaimsAreAsked : Type 0
ClaimsAreAsked = (c : Configuration) → c.format ≡ Three → OfEachAsk c (λ ask. IsFor Claim ask → LiesIn (claiming (length c.ports)) ask)

-- If a line says that no rule lets others speak for a network behind a router, no ask to do so is allowed, whatever comes.
abbrev pub NobodyClaims : Type 0
NobodyClaims = (c : Configuration) → c.format ≡ Three → may_pass (claiming (length c.ports)) c.rules ≡ false →
    OfEachAsk c (λ ask. IsFor Claim ask → allows c.rules ask ≡ false)
