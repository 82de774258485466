-- Whether a policy hides an object from a source, or from every source of a network: no ask to read it is allowed
-- there, whatever else the ask says.
use Rattle.std.specs.Prelude.{◌≡◌, ℕ, ◌<◌, ◌==◌, Bool, true, false, ◌&&◌, not, if◌then◌else◌, IsTrue, IsFalse, List}
use Rattle.std.specs.Prelude.{length, find, Option, Some, None}
use Rattle.std.specs.Option.{option_map_or}
use Rattle.gw_rules.specs.Ask.{Ask, ask_of}
use Rattle.gw_rules.specs.declared.operation.Operation.TheVariants.{Read}
use Rattle.gw_rules.specs.declared.range.Range.{Range}
use Rattle.gw_rules.specs.declared.rule.Rule.{Rule}
use Rattle.gw_rules.specs.Operation.{operation_number}
use Rattle.gw_rules.specs.Range.{admits}
use Rattle.gw_rules.specs.RuleList.{HasNumber, allows}

-- what each ask of a source says that would read an object: the operation, the source and the object
abbrev pub reading : ℕ → Option ℕ → ℕ → ℕ → Ask
reading net key kind instance = record (ask_of Read) {
  source_network = Some net;
  source_key = key;
  object_type = Some kind;
  instance = Some instance;
}

-- an ask of that source to read that object, whatever else it says
pub record Reads (net : ℕ) (key : Option ℕ) (kind number : ℕ) (ask : Ask) : Type 0 where
  pub operation : ask.operation ≡ Some (operation_number Read)
  pub source_network : ask.source_network ≡ Some net
  pub source_key : ask.source_key ≡ key
  pub object_type : ask.object_type ≡ Some kind
  pub instance : ask.instance ≡ Some number

-- no ask of that source to read that object is allowed
abbrev pub IsHidden : List Rule → ℕ → Option ℕ → ℕ → ℕ → Type 0
IsHidden rules net key kind instance =
    (ask : Ask) → Reads net key kind instance ask → allows rules ask ≡ false

-- a field that a rule has no range for
abbrev pub is_unnamed : List Range → Bool
is_unnamed ranges = length ranges == 0

-- ---- from a source

-- The rule may match an ask of some source, whatever else that says: each of these fields that it names holds what is
-- said there.
abbrev pub may_match_some : Ask → Rule → Bool
may_match_some ask rule =
    admits rule.ranges.operation ask.operation && admits rule.ranges.source_network ask.source_network
    && admits rule.ranges.object_type ask.object_type && admits rule.ranges.instance ask.instance

-- and so does the source key
abbrev pub may_match : Ask → Rule → Bool
may_match ask rule = may_match_some ask rule && admits rule.ranges.source_key ask.source_key

-- the rule names none of the other seven fields
abbrev pub names_no_other : Rule → Bool
names_no_other rule =
    is_unnamed rule.ranges.port && is_unnamed rule.ranges.destination_network
    && is_unnamed rule.ranges.service && is_unnamed rule.ranges.property
    && is_unnamed rule.ranges.priority && is_unnamed rule.ranges.sender
    && is_unnamed rule.ranges.station

-- it must match if it may match and names no other field
abbrev pub must_match : Ask → Rule → Bool
must_match ask rule = may_match ask rule && names_no_other rule

-- it must match every source if it also names no source key
abbrev pub must_match_all : Ask → Rule → Bool
must_match_all ask rule = may_match_some ask rule && is_unnamed rule.ranges.source_key && names_no_other rule

-- ---- which rule settles it

-- a rule that settles it: an allow rule that may match, or a deny rule that must
abbrev pub settles : (Rule → Bool) → (Rule → Bool) → Rule → Bool
settles may must rule = if rule.allow then may rule else must rule

-- it is hidden if the first rule that settles it denies, or there is none
unfoldable pub hides : (Rule → Bool) → (Rule → Bool) → List Rule → Bool
hides may must rules = option_map_or (λ rule. not rule.allow) (find (settles may must) rules) true

-- a deny rule of a lower number that must match
pub record IsDeniedBefore (must : Rule → Bool) (rules : List Rule) (number : ℕ) : Type 0 where
  pub lower : ℕ
  pub rule : Rule
  pub before : lower < number
  pub numbered : HasNumber rules lower rule
  pub denies : IsFalse rule.allow
  pub certain : IsTrue (must rule)

-- Each allow rule that may match comes after a deny rule that must match: what `hides` computes, in words.
abbrev pub Hides : (Rule → Bool) → (Rule → Bool) → List Rule → Type 0
Hides may must rules =
    (number : ℕ) (rule : Rule) → HasNumber rules number rule → IsTrue rule.allow → IsTrue (may rule) →
    IsDeniedBefore must rules number

-- from a source of this network and key, or of none
abbrev pub hides_from : List Rule → ℕ → Option ℕ → ℕ → ℕ → Bool
hides_from rules net key kind instance =
    let ask = reading net key kind instance in hides (may_match ask) (must_match ask) rules

abbrev pub HidesFrom : List Rule → ℕ → Option ℕ → ℕ → ℕ → Type 0
HidesFrom rules net key kind instance =
    let ask = reading net key kind instance in Hides (may_match ask) (must_match ask) rules

-- from every source of the network
abbrev pub hides_from_network : List Rule → ℕ → ℕ → ℕ → Bool
hides_from_network rules net kind instance =
    let ask = reading net None kind instance in hides (may_match_some ask) (must_match_all ask) rules

abbrev pub HidesFromNetwork : List Rule → ℕ → ℕ → ℕ → Type 0
HidesFromNetwork rules net kind instance =
    let ask = reading net None kind instance in Hides (may_match_some ask) (must_match_all ask) rules
