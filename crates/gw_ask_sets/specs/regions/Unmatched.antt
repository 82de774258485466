-- The search for an ask of some regions that none of some rules matches.
use Rattle.std.specs.Prelude.{◌≡◌, ◌≢◌, ◌⊎◌, ℕ, zero, suc, ◌+◌, Bool, true, false, List, [], ◌∷◌, ◌++◌}
use Rattle.std.specs.List.{list_any}
use Rattle.gw_rules.specs.Ask.{Ask}
use Rattle.gw_rules.specs.Fields.{value_of}
use Rattle.gw_rules.specs.Rule.{matches, ranges_of}
use Rattle.gw_rules.specs.declared.field.FieldName.{FieldName}
use Rattle.gw_rules.specs.declared.rule.Rule.{Rule}
use Rattle.gw_ask_sets.specs.regions.Coverage.{covers}
use Rattle.gw_ask_sets.specs.regions.Regions.{Region, lies_in_one, piece, piece_at}
use Rattle.gw_ask_sets.specs.regions.Steps.{IsRuleOf, divides}
use Rattle.gw_ask_sets.specs.regions.Values.{admitted}
use Rattle.gw_ask_sets.specs.declared.regions.unmatched.Unmatched.{Unmatched}
use Rattle.gw_ask_sets.specs.declared.regions.unmatched.Unmatched.TheVariants as unmatched

-- ---- in words

-- one of these rules matches an ask
abbrev pub is_matched : List Rule → Ask → Bool
is_matched rules ask = list_any (λ rule. matches rule ask) rules

-- an ask lies in one of the regions, and none of the rules matches it
abbrev pub IsUnmatched : List Region → List Rule → Ask → Type 0
IsUnmatched regions rules ask = (lies_in_one regions ask ≡ true) × (is_matched rules ask ≡ false)

-- one of the rules matches each ask of the regions
abbrev pub AreAllMatched : List Region → List Rule → Type 0
AreAllMatched regions rules = (ask : Ask) → lies_in_one regions ask ≡ true → is_matched rules ask ≡ true

-- ---- the steps of a search

-- a region in two parts: in a field the rule admits all values of the one, and none of the other
abbrev pub parts_at : FieldName → Rule → Region → List Region
parts_at field rule region =
    piece field region (admitted (value_of field region) (ranges_of field rule)) ++ piece_at field rule region

-- one of the rules divides a region, which is parted in a field in which this rule isn't seen to admit all values
pub record IsCut (rules : List Rule) (region : Region) (back : List Region) : Type 0 where
  pub rule : Rule
  pub one : IsRuleOf rules rule
  pub dividing : divides rule region ≡ true
  pub field : FieldName
  pub open_there : covers (value_of field region) (ranges_of field rule) ≡ false
  pub parts : back ≡ parts_at field rule region

-- what becomes of a region: it is dropped if the rules match all of its asks, or else parted
abbrev pub Narrows : List Rule → Region → List Region → Type 0
Narrows rules region back = (AreAllMatched (region ∷ []) rules × (back ≡ [])) ⊎ IsCut rules region back

-- a step takes up the last region that is left
pub record IsNarrowed (rules : List Rule) (before after : List Region) : Type 0 where
  pub rest : List Region
  pub region : Region
  pub back : List Region
  pub taken : before ≡ rest ++ region ∷ []
  pub narrowing : Narrows rules region back
  pub left : after ≡ rest ++ back

-- so many steps, one after the other
abbrev pub AreNarrowed : List Rule → ℕ → List Region → List Region → Type 0
AreNarrowed rules zero before after = after ≡ before
AreNarrowed rules (suc count) before after =
    (between : List Region) × AreNarrowed rules count before between × IsNarrowed rules between after

-- all steps of a search were used, and what is left isn't looked at
abbrev pub AreUsedUp : List Rule → ℕ → List Region → Type 0
AreUsedUp rules steps regions = (left : List Region) × AreNarrowed rules steps regions left

-- ---- how a search ends

-- after so many steps: the last of them takes up a region with an ask that none of the rules matches
pub record IsFoundAt (rules : List Rule) (regions : List Region) (count : ℕ) (ask : Ask) : Type 0 where
  pub earlier : ℕ
  pub counted : count ≡ earlier + 1
  pub rest : List Region
  pub region : Region
  pub made : AreNarrowed rules earlier regions (rest ++ region ∷ [])
  pub there : IsUnmatched (region ∷ []) rules ask

-- all steps that were given, and a region is left
pub record IsLeft (rules : List Rule) (regions : List Region) (given : ℕ) : Type 0 where
  pub left : List Region
  pub some : left ≢ []
  pub made : AreNarrowed rules given regions left

-- with an ask; with no region left; or with all steps made that were given
abbrev pub EndsWith : List Rule → List Region → (given count : ℕ) → Unmatched → Type 0
EndsWith rules regions given count (unmatched.Found ask) = IsFoundAt rules regions count ask
EndsWith rules regions given count unmatched.Nothing = AreNarrowed rules count regions []
EndsWith rules regions given count unmatched.Unknown = (count ≡ given) × IsLeft rules regions given
