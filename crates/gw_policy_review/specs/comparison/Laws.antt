-- What the text of a comparison says of the asks of two configurations.
use Rattle.std.specs.Prelude.{◌≡◌, ◌≢◌, ◌⊎◌, ℕ, Bool, true, false, not, count_by, IfSome, List, [], ◌++◌, Option, Some, None}
use Rattle.std.specs.List.{AllByRecursion, list_any}
use Rattle.std.specs.Option.{option_map_or}
use Rattle.gw_configuration.specs.Configuration.{Configuration, are_counted}
use Rattle.gw_configuration.specs.Subnet.{IsSubnet, Subnet, keys_of}
use Rattle.gw_ask_sets.specs.regions.Comparing.{IsDecided, decider, differs, is_found}
use Rattle.gw_ask_sets.specs.regions.Pairs.{Findings, IsDecidedBy, is_shown}
use Rattle.gw_ask_sets.specs.regions.Regions.{lies}
use Rattle.gw_ask_sets.specs.regions.Values.{has, is_any}
use Rattle.gw_ask_sets.specs.declared.regions.comparison.Found.{Found}
use Rattle.gw_ask_sets.specs.declared.regions.values.Values.{Values}
use Rattle.gw_rules.specs.Ask.{Ask}
use Rattle.gw_rules.specs.Fields.{value_of}
use Rattle.gw_rules.specs.Range.{holds}
use Rattle.gw_rules.specs.RuleList.{allows, is_logged}
use Rattle.gw_rules.specs.declared.field.FieldName.{FieldName}
use Rattle.gw_rules.specs.declared.range.Range.{Range}
use Rattle.gw_ask_sets.specs.shapes.Shape.{LiesInOne}
use Rattle.gw_ask_sets.specs.shapes.Shapes.{shapes}
use Rattle.gw_policy_review.specs.comparison.Asks.{asks_of}
use Rattle.gw_policy_review.specs.comparison.Comparison.{IsComparisonText, Manner, asks_text, has_lines}
use Rattle.gw_policy_review.specs.comparison.Groups.{firsts, is_like}
use Rattle.gw_policy_review.specs.comparison.Lines.{Naming}
use Rattle.gw_policy_review.specs.comparison.Operations.{is_open}
use Rattle.gw_policy_review.specs.comparison.PartLines.{details}
use Rattle.gw_policy_review.specs.comparison.Parts.{AreDifferences, AreLike}
use Rattle.gw_policy_review.specs.comparison.Words.{numbers_of, prefix_of, rest_of, subnet_from}
use Rattle.gw_policy_review.specs.declared.comparison.parts.Part.{Part}
use Rattle.gw_policy_review.specs.declared.comparison.comparison.Compared.{Compared}
use Rattle.gw_policy_review.specs.declared.comparison.comparison.Compared.TheVariants as compared

-- an ask of a shape of one of the two configurations: a gateway of that one may raise it
abbrev pub IsAskOf : Configuration → Configuration → Ask → Type 0
IsAskOf old new ask = LiesInOne (shapes old) ask ⊎ LiesInOne (shapes new) ask

-- Unless the comparison isn't finished, or is by pairs alone, such an ask is decided otherwise exactly if it lies in a region
-- that was found.
abbrev pub FoundIsAll : Type 0
FoundIsAll = (old new : Configuration) (how : Manner) (made : Compared) (text : List ℕ)
    (written : IsComparisonText old new how made text) → made ≢ compared.Unfinished → made ≢ compared.Paired
    → (ask : Ask) → IsAskOf old new ask → differs old.rules new.rules ask ≡ is_found written.found ask

-- the rules that decide an ask are a pair that was found
abbrev pub is_paired : Configuration → Configuration → Option Findings → Ask → Bool
is_paired old new pairs ask =
    option_map_or (λ known. is_shown known.found (decider old.rules ask) (decider new.rules ask)) pairs false

-- If it is by pairs, such an ask is decided otherwise exactly if the two rules that decide it are a pair that was found.
abbrev pub PairsAreAll : Type 0
PairsAreAll = (old new : Configuration) (how : Manner) (made : Compared) (text : List ℕ)
    (written : IsComparisonText old new how made text) → made ≡ compared.Paired
    → (ask : Ask) → IsAskOf old new ask → differs old.rules new.rules ask ≡ is_paired old new written.pairs ask

-- Finished or not: each pair that was found has such an ask, which the two decide.
abbrev pub PairsHaveAsks : Type 0
PairsHaveAsks = (old new : Configuration) (how : Manner) (made : Compared) (text : List ℕ)
    (written : IsComparisonText old new how made text)
    → IfSome written.pairs (λ known. AllByRecursion (λ shown.
    IsAskOf old new shown.ask × IsDecidedBy (asks_of old new) old.rules new.rules shown) known.found)

-- the text says that no ask is decided otherwise, or that only other parts differ
abbrev pub says_alike : Compared → Bool
says_alike compared.Alike = true
says_alike compared.OtherParts = true
says_alike compared.Different = false
says_alike compared.Paired = false
says_alike compared.Unfinished = false

-- Then the two decide each of them alike.
abbrev pub AlikeIsAlike : Type 0
AlikeIsAlike = (old new : Configuration) (how : Manner) (made : Compared) (text : List ℕ) → IsComparisonText old new how made text
    → says_alike made ≡ true → (ask : Ask) → IsAskOf old new ask → allows old.rules ask ≡ allows new.rules ask

-- If no part differs, all that has an effect is the same, but for what the rules decide.
abbrev pub NoneDiffers : Type 0
NoneDiffers = (old new : Configuration) → AreDifferences old new [] → AreLike old new

-- And a part is named only if it differs: of two that are so alike none is.
abbrev pub LikeHasNone : Type 0
LikeHasNone = (old new : Configuration) (differ : List Part) → AreLike old new → AreDifferences old new differ → differ ≡ []

-- So it is if the text says that no ask is decided otherwise.
abbrev pub AlikeIsLike : Type 0
AlikeIsLike = (old new : Configuration) (how : Manner) (text : List ℕ) → IsComparisonText old new how compared.Alike text
    → AreLike old new

-- And then the logs have the same denials, if perhaps by rules of other names: each of these asks is logged under both or
-- under neither.
abbrev pub AlikeIsLogged : Type 0
AlikeIsLogged = (old new : Configuration) (how : Manner) (text : List ℕ) → IsComparisonText old new how compared.Alike text
    → (ask : Ask) → IsAskOf old new ask → is_logged old.rules ask ≡ is_logged new.rules ask

-- Finished or not: such an ask that lies in a region that was found is decided as the line of the region says, and by
-- rules that it names.
abbrev pub LinesAreTrue : Type 0
LinesAreTrue = (old new : Configuration) (how : Manner) (made : Compared) (text : List ℕ)
    (written : IsComparisonText old new how made text)
    → AllByRecursion (λ f. (ask : Ask) → IsAskOf old new ask → lies f.region ask ≡ true → IsDecided old.rules new.rules f ask)
    written.found

-- Each region that was found has such an ask.
abbrev pub LinesHaveAsks : Type 0
LinesHaveAsks = (old new : Configuration) (how : Manner) (made : Compared) (text : List ℕ)
    (written : IsComparisonText old new how made text)
    → AllByRecursion (λ f. (lies f.region f.ask ≡ true) × IsAskOf old new f.ask) written.found

-- Where regions have lines: a field of a region that may be absent, but isn't just anything, is absent in such an ask that lies there: a
-- line that says `or none` of a field, or `without` it, has an ask without it.
abbrev pub NoneHasAsk : Type 0
NoneHasAsk = (old new : Configuration) (how : Manner) (made : Compared) (text : List ℕ)
    (written : IsComparisonText old new how made text) → has_lines written.pairs ≡ true
    → AllByRecursion (λ f. (field : FieldName) → has (value_of field f.region) None ≡ true
    → is_any (value_of field f.region) ≡ false
    → (ask : Ask) × (lies f.region ask ≡ true) × IsAskOf old new ask × (value_of field ask ≡ None)) written.found

-- And each operation of a region is that of such an ask there, unless the region says nothing of what its asks are for: a line names
-- exactly the operations that are decided otherwise in it.
abbrev pub OperationHasAsk : Type 0
OperationHasAsk = (old new : Configuration) (how : Manner) (made : Compared) (text : List ℕ)
    (written : IsComparisonText old new how made text) → has_lines written.pairs ≡ true
    → AllByRecursion (λ f. (operation : Option ℕ) → is_open f.region ≡ false → has f.region.operation operation ≡ true
    → (ask : Ask) × (lies f.region ask ≡ true) × IsAskOf old new ask × (ask.operation ≡ operation)) written.found

-- A range of stations that is said as a subnet has exactly its keys, at every UDP port; what shares all 32 bits is said as an
-- address alone.
abbrev pub SubnetIsRange : Type 0
SubnetIsRange = (range : Range) (prefix : ℕ) → prefix_of range ≡ Some prefix
    → (s : Subnet) × IsSubnet s × (s.prefix ≡ prefix) × (keys_of s ≡ range) × (subnet_from range prefix ≡ Some s)

-- What is said as all but some subnets is what the field may be: of the numbers that it can have each but those of the subnets.
abbrev pub RestIsMeant : Type 0
RestIsMeant = (field : FieldName) (values : Values) (number : ℕ) → list_any (holds number) (numbers_of field) ≡ true
    → has values (Some number) ≡ not (list_any (holds number) (rest_of field values.ranges))

-- Each region is in the group of exactly one of the first regions: the groups have each region once.
abbrev pub EachHasOneGroup : Type 0
EachHasOneGroup = (found : List Found) → AllByRecursion (λ f. count_by (λ g. is_like g f) (firsts found) ≡ 1) found

-- names alone, without the place of a table
abbrev pub bare : Configuration → Naming
bare c = record { rules = c.rules; tables = []; lines = [] }

-- Where each table of the two is the rule of its own number, the text names no place: it is made of names alone.
abbrev pub NoPlaceIsNamed : Type 0
NoPlaceIsNamed = (old new : Configuration) (how : Manner) (made : Compared) (text : List ℕ)
    (written : IsComparisonText old new how made text)
    → are_counted 0 old.tables ≡ true → are_counted 0 new.tables ≡ true
    → text ≡ details old new written.differ ++ asks_text (bare old) (bare new) how.most made written.found written.pairs
