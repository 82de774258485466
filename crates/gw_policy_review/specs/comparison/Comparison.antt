-- What `bacgwctl compare` says of two configurations.
use Rattle.std.specs.Prelude.{◌≡◌, ℕ, Bool, true, ◌==◌, not, if◌then◌else◌, IfSome, List, [], ◌∷◌, ◌++◌, length, codes, decimal, Option}
use Rattle.std.specs.Prelude.{Some, None}
use Rattle.std.specs.List.Sorted.{IsNonDecreasingBy}
use Rattle.std.specs.Option.{is_some}
use Rattle.gw_configuration.specs.Configuration.{Configuration}
use Rattle.gw_ask_sets.specs.regions.Comparing.{IsSummary}
use Rattle.gw_ask_sets.specs.regions.Pairs.{AreSought, Findings}
use Rattle.gw_ask_sets.specs.regions.Presence.{OrNoneIsMeant}
use Rattle.gw_ask_sets.specs.regions.Regions.{Region}
use Rattle.gw_ask_sets.specs.regions.Steps.{IsReached, stage}
use Rattle.gw_ask_sets.specs.regions.Tidying.{all_tidied}
use Rattle.gw_ask_sets.specs.declared.regions.comparison.Found.{Found}
use Rattle.gw_ask_sets.specs.declared.regions.pairs.ShownPair.{ShownPair}
use Rattle.gw_policy_review.specs.comparison.Asks.{asks_of}
use Rattle.gw_policy_review.specs.comparison.Groups.{regions_text}
use Rattle.gw_policy_review.specs.comparison.Lines.{Naming, naming}
use Rattle.gw_policy_review.specs.comparison.Operations.{OperationsAreMeant}
use Rattle.gw_policy_review.specs.comparison.PairLines.{given_up_text, pairs_text}
use Rattle.gw_policy_review.specs.comparison.PartLines.{details}
use Rattle.gw_policy_review.specs.comparison.Parts.{AreDifferences}
use Rattle.gw_policy_review.specs.declared.comparison.parts.Part.{Part}
use Rattle.gw_policy_review.specs.declared.comparison.comparison.Compared.{Compared}
use Rattle.gw_policy_review.specs.declared.comparison.comparison.Compared.TheVariants as compared
use Rattle.gw_policy_review.specs.declared.comparison.comparison.Printing.{Printing}

-- what is newly allowed comes first
abbrev pub rank : Found → ℕ
rank f = if f.allows then 0 else 1

-- alike, if nothing is left, nothing found, and no other part differs
abbrev pub alike_by : ℕ → Compared
alike_by differ = if differ == 0 then compared.Alike else compared.OtherParts

abbrev pub compared_by : (differ found left : ℕ) → Compared
compared_by differ found left =
    if left == 0 then (if found == 0 then alike_by differ else compared.Different) else compared.Unfinished

-- by pairs of rules, where regions are left: finished, if no pair was given up
abbrev pub paired_by : (differ : ℕ) → Findings → Compared
paired_by differ known =
    if length known.given_up == 0
    then (if length known.found == 0 then alike_by differ else compared.Paired) else compared.Unfinished

abbrev pub judged_by : (differ found left : ℕ) → Option Findings → Compared
judged_by differ found left None = compared_by differ found left
judged_by differ found left (Some known) = paired_by differ known

-- ---- the end

-- `1 kind of asks is decided otherwise`
abbrev pub kinds_text : ℕ → List ℕ
kinds_text count =
    decimal count
    ++ (if count == 1 then codes " kind of asks is decided otherwise" else codes " kinds of asks are decided otherwise")

-- the last line
abbrev pub ending_text : Compared → ℕ → List ℕ
ending_text compared.Alike count = codes "no ask is decided otherwise" ++ 10 ∷ []
ending_text compared.OtherParts count = codes "the rules decide alike, but other parts differ" ++ 10 ∷ []
ending_text compared.Different count = kinds_text count ++ (codes ", and no other" ++ 10 ∷ [])
ending_text compared.Paired count =
    codes "pairs of rules that decide asks otherwise: " ++ (decimal count ++ (codes ", and no other" ++ 10 ∷ []))
ending_text compared.Unfinished count =
    (if count == 1 then codes "not finished: at least this " else codes "not finished: at least these ")
    ++ (kinds_text count ++ 10 ∷ [])

-- regions have lines, unless the pairs are all that there is to say
abbrev pub has_lines : Option Findings → Bool
has_lines None = true
has_lines (Some known) = not (length known.given_up == 0)

-- what is said of regions alone, and the last line
abbrev pub by_regions_text : Naming → Naming → (most : ℕ) → Compared → List Found → List ℕ
by_regions_text old new most made found = regions_text old new most found ++ ending_text made (length found)

-- what is said of pairs that are all, and the last line
abbrev pub by_pairs_text : Naming → Naming → (most : ℕ) → Compared → List ShownPair → List ℕ
by_pairs_text old new most made pairs = pairs_text old new most pairs ++ ending_text made (length pairs)

-- what is said of regions, and of pairs that aren't all, and the last line
abbrev pub by_both_text : Naming → Naming → (most : ℕ) → Compared → List Found → Findings → List ℕ
by_both_text old new most made found known =
    regions_text old new most found
    ++ (pairs_text old new most known.found
    ++ (given_up_text (length known.found) (length known.given_up) ++ ending_text made (length found)))

abbrev pub asks_text : Naming → Naming → (most : ℕ) → Compared → List Found → Option Findings → List ℕ
asks_text old new most made found None = by_regions_text old new most made found
asks_text old new most made found (Some known) =
    if length known.given_up == 0 then by_pairs_text old new most made known.found else by_both_text old new most made found known

-- ---- the whole

-- a comparison of the rules, with the ranges of each in order, leaves these regions after so many steps
pub record IsLeftAfter (old new : Configuration) (steps : ℕ) (left : List Region) : Type 0 where
  pub found : List Found
  pub reached : IsReached (asks_of old new) (all_tidied old.rules) (all_tidied new.rules) steps (stage found left)

-- What is found of what two configurations decide otherwise, over all asks that a gateway of either may raise: regions, after
-- so many steps, what is newly allowed first if they have lines, and pairs of rules where a region is left.
pub record AreResults (old new : Configuration) (found : List Found) (left : List Region) (steps : ℕ) (pairs : Option Findings)
    : Type 0 where
  pub reached : IsLeftAfter old new steps left
  pub summary : IsSummary (asks_of old new) old.rules new.rules found left
  pub or_none : has_lines pairs ≡ true → OrNoneIsMeant (asks_of old new) found
  pub operations : has_lines pairs ≡ true → OperationsAreMeant (asks_of old new) found
  pub in_order : has_lines pairs ≡ true → IsNonDecreasingBy rank found
  pub asked : is_some pairs ≡ not (length left == 0)
  pub are_pairs : IfSome pairs (λ known. AreSought (asks_of old new) old.rules new.rules known)

-- how a comparison is printed: at most so many lines of each group, and by the lines of the old and of the new text on which the
-- tables of rules begin, or none if they aren't known
pub record Manner : Type 0 where
  pub most : ℕ
  pub old_lines : List ℕ
  pub new_lines : List ℕ

abbrev pub manner_of : Printing → Manner
manner_of how = record { most = how.most; old_lines = how.old_lines.now; new_lines = how.new_lines.now }

-- A text compares two configurations: it has the lines of the parts in which they differ, and those of regions and pairs in
-- which what the old and the new rules decide otherwise is summed up. A rule is named with the place of its table in its own
-- text.
pub record IsComparisonText (old new : Configuration) (how : Manner) (made : Compared) (text : List ℕ) : Type 0 where
  pub differ : List Part
  pub are_differences : AreDifferences old new differ
  pub found : List Found
  pub left : List Region
  pub steps : ℕ
  pub pairs : Option Findings
  pub results : AreResults old new found left steps pairs
  pub verdict : made ≡ judged_by (length differ) (length found) (length left) pairs
  pub written : text ≡ details old new differ
      ++ asks_text (naming old how.old_lines) (naming new how.new_lines) how.most made found pairs

-- Such a text is after what a buffer held, and so many steps were made for it.
abbrev pub AppendsCounted : Configuration → Configuration → Manner → Compared → (steps : ℕ) → List ℕ → List ℕ → Type 0
AppendsCounted old new how made steps before after =
    (text : List ℕ) × (written : IsComparisonText old new how made text) × (written.steps ≡ steps) × (after ≡ before ++ text)

abbrev pub AppendsComparison : Configuration → Configuration → Manner → Compared → List ℕ → List ℕ → Type 0
AppendsComparison old new how made before after =
    (text : List ℕ) × IsComparisonText old new how made text × (after ≡ before ++ text)
