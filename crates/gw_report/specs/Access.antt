-- Who may do what: how much of the asks of each kind a policy allows, in a table by network and operation.
use Rattle.std.specs.Prelude.{◌≡◌, ◌⊎◌, ℕ, ◌+◌, ◌-◌, ◌≤◌, ◌==◌, Bool, true, false, ◌&&◌, not, List, Option, Some, None}
use Rattle.std.specs.List.{filter, list_any}
use Rattle.gw_rules.specs.Ask.{Ask}
use Rattle.gw_rules.specs.Operation.{operation_number}
use Rattle.gw_rules.specs.RuleList.{allows}
use Rattle.gw_rules.specs.declared.operation.Operation.{Operation}
use Rattle.gw_rules.specs.declared.range.Range.{Range}
use Rattle.gw_rules.specs.declared.rule.Rule.{Rule}
use Rattle.gw_ask_sets.specs.regions.Ranges.{lesser}
use Rattle.gw_ask_sets.specs.declared.shapes.search.Outcome.{Outcome}
use Rattle.gw_ask_sets.specs.declared.shapes.search.Outcome.TheVariants as outcome
use Rattle.gw_ask_sets.specs.shapes.Shape.{LiesInOne, Shape}
use Rattle.gw_policy_review.specs.permissions.Passing.{AreMade, IsDecision, searched_rules}
use Rattle.gw_report.specs.declared.access.Whence.{Whence}
use Rattle.gw_report.specs.declared.access.Whence.TheVariants.{Port, Beyond}
use Rattle.gw_report.specs.declared.passing.Extent.{Extent}
use Rattle.gw_report.specs.declared.passing.Extent.TheVariants as extent

-- ---- of which asks a cell is

abbrev pub is_only : ℕ → Range → Bool
is_only number range = (range.low == number) && (range.high == number)

-- the asks of a shape come from the network of this port
abbrev pub is_at : Whence → Shape → Bool
is_at (Port number network) shape = is_only number shape.port.range && is_only network shape.source_network.range
is_at Beyond shape = false

-- they come from there; from beyond, if they come from the network of none of these ports
abbrev pub comes_from : List Whence → Whence → Shape → Bool
comes_from own Beyond shape = not (list_any (λ port. is_at port shape) own)
comes_from own port shape = is_at port shape

-- they are for the operation, and come from there
abbrev pub is_asked : List Whence → Whence → Operation → Shape → Bool
is_asked own whence operation shape = (shape.operation.range.low == operation_number operation) && comes_from own whence shape

abbrev pub asked_shapes : List Whence → List Shape → Whence → Operation → List Shape
asked_shapes own shapes whence operation = filter (is_asked own whence operation) shapes

-- ---- what is found of them

-- how much of them the rules allow, by what a search for one that they allow comes to, and one for one that they deny; `None` if
-- there is no ask
abbrev pub extent_of : (allowed denied : Outcome) → Option Extent
extent_of outcome.Never outcome.Never = None
extent_of outcome.Never (outcome.Decides ask) = Some extent.Nothing
extent_of outcome.Never outcome.Unknown = Some extent.Nothing
extent_of (outcome.Decides ask) outcome.Never = Some extent.All
extent_of outcome.Unknown outcome.Never = Some extent.All
extent_of (outcome.Decides ask) (outcome.Decides other) = Some extent.Some
extent_of (outcome.Decides ask) outcome.Unknown = Some extent.Unknown
extent_of outcome.Unknown (outcome.Decides ask) = Some extent.Unknown
extent_of outcome.Unknown outcome.Unknown = Some extent.Unknown

-- how many steps a search of a cell is given: 16,384, or those that are left for the table
abbrev pub steps_given : (left : ℕ) → ℕ
steps_given left = lesser 16384 left

-- what a cell shows of the asks of some shapes; so many steps are left before, and after
pub record IsCell (shapes : List Shape) (rules : List Rule) (left rest : ℕ) (cell : Option Extent) : Type 0 where
  pub allowed : Outcome
  pub first : ℕ
  pub is_allowed : IsDecision true shapes rules (steps_given left) first allowed
  pub denied : Outcome
  pub second : ℕ
  pub is_denied : IsDecision false shapes rules (steps_given (left - first)) second denied
  pub counted : left ≡ rest + first + second
  pub shown : cell ≡ extent_of allowed denied

-- ---- what a cell says

-- one of the asks is decided so
abbrev pub OneIsDecided : Bool → List Shape → List Rule → Type 0
OneIsDecided says shapes rules = (ask : Ask) × LiesInOne shapes ask × (allows rules ask ≡ says)

-- each of them is
abbrev pub EachIsDecided : Bool → List Shape → List Rule → Type 0
EachIsDecided says shapes rules = (ask : Ask) → LiesInOne shapes ask → allows rules ask ≡ says

-- a search for one that is decided so made all steps that it was given, of those that were left when it began, and nothing is known
pub record IsUnfinished (shapes : List Shape) (rules : List Rule) (left : ℕ) : Type 0 where
  pub says : Bool
  pub begun : ℕ
  pub of_those : begun ≤ left
  pub made : AreMade says shapes (searched_rules rules) (steps_given begun) (steps_given begun) outcome.Unknown

-- None and all are said of each ask, and some of one of each kind. That it isn't known is said only where steps were used up. A dash
-- says that there is no ask.
abbrev pub Says : List Shape → List Rule → (left : ℕ) → Option Extent → Type 0
Says shapes rules left None = (ask : Ask) → ¬ (LiesInOne shapes ask)
Says shapes rules left (Some extent.Nothing) =
    EachIsDecided false shapes rules × (OneIsDecided false shapes rules ⊎ IsUnfinished shapes rules left)
Says shapes rules left (Some extent.All) =
    EachIsDecided true shapes rules × (OneIsDecided true shapes rules ⊎ IsUnfinished shapes rules left)
Says shapes rules left (Some extent.Some) = OneIsDecided true shapes rules × OneIsDecided false shapes rules
Says shapes rules left (Some extent.Unknown) = IsUnfinished shapes rules left

-- Each cell of the table is true.
abbrev pub CellsAreTrue : Type 0
CellsAreTrue = (shapes : List Shape) (rules : List Rule) (left rest : ℕ) (cell : Option Extent) → IsCell shapes rules left rest cell →
    Says shapes rules left cell
