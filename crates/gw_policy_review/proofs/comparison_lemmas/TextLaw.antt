-- What the text of a comparison says is true of each ask.
use Rattle.std.proofs.Common.{◌≡◌, ◌≢◌, ◌∙◌, inl, inr, ap, refl, sym, ℕ, Bool, true, false, ◌&&◌, ◌||◌, ◌==◌, List, [], ◌∷◌, length, Option, Some, None}
use Rattle.std.specs.Prelude.{if◌then◌else◌, not, IfSome}
use Rattle.std.specs.List.{AllByRecursion}
use Rattle.std.proofs.lemmas.Bool.{and_parts, both_ways, eqb-true}
use Rattle.gw_configuration.specs.Configuration.{Configuration}
use Rattle.gw_ask_sets.specs.regions.Comparing.{IsDecided, IsSummary, decider, differs, is_found, unlike}
use Rattle.gw_ask_sets.specs.regions.Pairs.{AreSought, Findings, IsDecidedBy, is_given_up, is_shown}
use Rattle.gw_ask_sets.specs.regions.Presence.{NoneIsMeant}
use Rattle.gw_ask_sets.specs.regions.Regions.{Region, lies, lies_in_one}
use Rattle.gw_ask_sets.specs.regions.Values.{has, is_any}
use Rattle.gw_ask_sets.specs.declared.regions.comparison.Found.{Found}
use Rattle.gw_ask_sets.specs.declared.regions.pairs.Pair.{Pair}
use Rattle.gw_ask_sets.specs.declared.regions.pairs.ShownPair.{ShownPair}
use Rattle.gw_ask_sets.proofs.regions_lemmas.PairLaw.{are_pairs}
use Rattle.gw_rules.specs.Ask.{Ask}
use Rattle.gw_rules.specs.Fields.{value_of}
use Rattle.gw_rules.specs.declared.field.FieldName.{FieldName}
use Rattle.gw_rules.specs.RuleList.{allows}
use Rattle.gw_rules.proofs.EachAsk.{each_weaker}
use Rattle.gw_policy_review.specs.comparison.Asks.{asks_of}
use Rattle.gw_policy_review.specs.comparison.Comparison.{AreResults, alike_by, compared_by, judged_by, paired_by}
use Rattle.gw_policy_review.specs.comparison.Laws.{AlikeIsAlike, FoundIsAll, IsAskOf, LinesAreTrue, LinesHaveAsks, NoneHasAsk, OperationHasAsk, PairsAreAll, PairsHaveAsks, is_paired, says_alike}
use Rattle.gw_policy_review.specs.comparison.Operations.{OperationIsMeant, is_open}
use Rattle.gw_policy_review.specs.declared.comparison.comparison.Compared.{Compared}
use Rattle.gw_policy_review.specs.declared.comparison.comparison.Compared.TheVariants as compared
use Rattle.gw_policy_review.proofs.comparison_lemmas.AskLaw.{all_asks}

-- ---- whether it is finished

none_by_length : {A : Type 0} (xs : List A) → length xs ≡ 0 → xs ≡ []
none_by_length [] e = refl
none_by_length (x ∷ xs) e = absurd cc

-- a test that is turned is no other one
turned : (a b : Bool) → a ≡ not b → a ≡ false → b ≡ true
turned a true e f = refl
turned a false e f = absurd (both_ways a f e)

-- neither unfinished, nor by pairs
abbrev is_whole : Compared → Bool
is_whole compared.Unfinished = false
is_whole compared.Paired = false
is_whole _ = true

whole : (made : Compared) → made ≢ compared.Unfinished → made ≢ compared.Paired → is_whole made ≡ true
whole compared.Alike a b = refl
whole compared.OtherParts a b = refl
whole compared.Different a b = refl
whole compared.Paired a b = absurd (b refl)
whole compared.Unfinished a b = absurd (a refl)

alike_whole : (made : Compared) → says_alike made ≡ true → is_whole made ≡ true
alike_whole compared.Alike e = refl
alike_whole compared.OtherParts e = refl
alike_whole compared.Different e = absurd (both_ways false refl e)
alike_whole compared.Paired e = absurd (both_ways false refl e)
alike_whole compared.Unfinished e = absurd (both_ways false refl e)

-- if the two decide alike by the regions, nothing is found
nothing_found : (differ found left : ℕ) (made : Compared) → made ≡ compared_by differ found left → says_alike made ≡ true → found ≡ 0
nothing_found differ found left made e alike = by (left == 0) (found == 0) refl (ap says_alike (sym e) ∙ alike)
  where
    by : (b c : Bool) → (found == 0) ≡ c
        → says_alike (if b then (if c then alike_by differ else compared.Different) else compared.Unfinished) ≡ true → found ≡ 0
    by b true is said = eqb-true found 0 is
    by true false is said = absurd (both_ways false refl said)
    by false false is said = absurd (both_ways false refl said)

-- by pairs it is whole only if none was found or given up
record NonePaired (known : Findings) : Type 0 where
  found : known.found ≡ []
  given_up : known.given_up ≡ []

none_paired : (differ : ℕ) (known : Findings) (made : Compared) → made ≡ paired_by differ known → is_whole made ≡ true → NonePaired known
none_paired differ known made e is = by (length known.given_up == 0) (length known.found == 0) refl refl (ap is_whole (sym e) ∙ is)
  where
    by : (b c : Bool) → (length known.given_up == 0) ≡ b → (length known.found == 0) ≡ c
        → is_whole (if b then (if c then alike_by differ else compared.Paired) else compared.Unfinished) ≡ true → NonePaired known
    by true true up found said = record {
      found = none_by_length known.found (eqb-true (length known.found) 0 found);
      given_up = none_by_length known.given_up (eqb-true (length known.given_up) 0 up);
    }
    by true false up found said = absurd (both_ways false refl said)
    by false c up found said = absurd (both_ways false refl said)

-- by pairs that are all found none was given up
none_up : (differ : ℕ) (known : Findings) → compared.Paired ≡ paired_by differ known → known.given_up ≡ []
none_up differ known e = by (length known.given_up == 0) (length known.found == 0) (differ == 0) refl (ap is_paired_so (sym e))
  where
    is_paired_so : Compared → Bool
    is_paired_so compared.Paired = true
    is_paired_so _ = false

    by : (b c d : Bool) → (length known.given_up == 0) ≡ b
        → is_paired_so (if b then (if c then (if d then compared.Alike else compared.OtherParts) else compared.Paired) else compared.Unfinished) ≡ true
        → known.given_up ≡ []
    by true c d up said = none_by_length known.given_up (eqb-true (length known.given_up) 0 up)
    by false c d up said = absurd (both_ways false refl said)

-- ---- the laws

there : (old new : Configuration) (ask : Ask) → IsAskOf old new ask → lies_in_one (asks_of old new) ask ≡ true
there old new ask (inl old_one) = (all_asks old new).by_old ask old_one
there old new ask (inr new_one) = (all_asks old new).by_new ask new_one

plain : (b c : Bool) → (b || (false && c)) ≡ b
plain true c = refl
plain false c = refl

-- where nothing is left
finished_all : (old new : Configuration) (found : List Found) (left : List Region) → IsSummary (asks_of old new) old.rules new.rules found left
    → left ≡ [] → (ask : Ask) → IsAskOf old new ask → differs old.rules new.rules ask ≡ is_found found ask
finished_all old new found left summary none ask is =
    summary.exact ask (there old new ask is)
    ∙ ap (λ (left : List Region). is_found found ask || (lies_in_one left ask && differs old.rules new.rules ask)) none
    ∙ plain (is_found found ask) (differs old.rules new.rules ask)

-- where no pair was found or given up, nothing is decided otherwise
none_differs_by : (old new : Configuration) (known : Findings) → AreSought (asks_of old new) old.rules new.rules known → NonePaired known
    → (ask : Ask) → IsAskOf old new ask → differs old.rules new.rules ask ≡ false
none_differs_by old new known sought none ask is =
    (are_pairs (asks_of old new) old.rules new.rules known sought).exact ask (there old new ask is)
    ∙ ap (λ (found : List ShownPair). is_shown found (decider old.rules ask) (decider new.rules ask)
    || (is_given_up known.given_up (decider old.rules ask) (decider new.rules ask) && differs old.rules new.rules ask)) none.found
    ∙ ap (λ (up : List Pair). is_given_up up (decider old.rules ask) (decider new.rules ask) && differs old.rules new.rules ask) none.given_up

-- so nothing was found
none_found_by : (old new : Configuration) (found : List Found) (left : List Region) → IsSummary (asks_of old new) old.rules new.rules found left
    → (ask : Ask) → IsAskOf old new ask → differs old.rules new.rules ask ≡ false → differs old.rules new.rules ask ≡ is_found found ask
none_found_by old new found left summary ask is none = none ∙ by (is_found found ask) (sym none ∙ summary.exact ask (there old new ask is))
  where
    by : (b : Bool) → false ≡ (b || (lies_in_one left ask && differs old.rules new.rules ask)) → false ≡ b
    by true e = e
    by false e = refl

all_by : (old new : Configuration) (found : List Found) (left : List Region) (steps : ℕ) (pairs : Option Findings) → AreResults old new found left steps pairs
    → (differ : ℕ) (made : Compared) → made ≡ judged_by differ (length found) (length left) pairs → is_whole made ≡ true
    → (ask : Ask) → IsAskOf old new ask → differs old.rules new.rules ask ≡ is_found found ask
all_by old new found left steps None results differ made e is ask ask_of =
    finished_all old new found left results.summary
    (none_by_length left (eqb-true (length left) 0 (turned false (length left == 0) results.asked refl))) ask ask_of
all_by old new found left steps (Some known) results differ made e is ask ask_of =
    none_found_by old new found left results.summary ask ask_of
    (none_differs_by old new known results.are_pairs (none_paired differ known made e is) ask ask_of)

pub found_is_all : FoundIsAll
found_is_all old new most made text written finished paired ask is =
    all_by old new written.found written.left written.steps written.pairs written.results (length written.differ) made written.verdict (whole made finished paired) ask is

same : (a b : Bool) → unlike a b ≡ false → a ≡ b
same true true e = refl
same true false e = absurd (both_ways true e refl)
same false true e = absurd (both_ways true e refl)
same false false e = refl

alike_by_none : (old new : Configuration) (found : List Found) (left : List Region) (steps : ℕ) (pairs : Option Findings) → AreResults old new found left steps pairs
    → (differ : ℕ) (made : Compared) → made ≡ judged_by differ (length found) (length left) pairs → says_alike made ≡ true
    → (ask : Ask) → IsAskOf old new ask → differs old.rules new.rules ask ≡ false
alike_by_none old new found left steps None results differ made e alike ask is =
    all_by old new found left steps None results differ made e (alike_whole made alike) ask is
    ∙ ap (λ (fs : List Found). is_found fs ask) (none_by_length found (nothing_found differ (length found) (length left) made e alike))
alike_by_none old new found left steps (Some known) results differ made e alike ask is =
    none_differs_by old new known results.are_pairs (none_paired differ known made e (alike_whole made alike)) ask is

pub alike_is_alike : AlikeIsAlike
alike_is_alike old new most made text written alike ask is =
    same (allows old.rules ask) (allows new.rules ask)
    (alike_by_none old new written.found written.left written.steps written.pairs written.results (length written.differ) made written.verdict alike ask is)

-- ---- pairs

paired_all : (old new : Configuration) (differ found left : ℕ) (pairs : Option Findings)
    → IfSome pairs (λ known. AreSought (asks_of old new) old.rules new.rules known) → compared.Paired ≡ judged_by differ found left pairs
    → (ask : Ask) → IsAskOf old new ask → differs old.rules new.rules ask ≡ is_paired old new pairs ask
paired_all old new differ found left None sought e ask is = absurd (by (left == 0) (found == 0) (differ == 0) (ap is_paired_so (sym e)))
  where
    is_paired_so : Compared → Bool
    is_paired_so compared.Paired = true
    is_paired_so _ = false

    by : (b c d : Bool)
        → is_paired_so (if b then (if c then (if d then compared.Alike else compared.OtherParts) else compared.Different) else compared.Unfinished) ≡ true → ⊥
    by true true true said = both_ways false refl said
    by true true false said = both_ways false refl said
    by true false d said = both_ways false refl said
    by false c d said = both_ways false refl said
paired_all old new differ found left (Some known) sought e ask is =
    (are_pairs (asks_of old new) old.rules new.rules known sought).exact ask (there old new ask is)
    ∙ ap (λ (up : List Pair). is_shown known.found (decider old.rules ask) (decider new.rules ask)
    || (is_given_up up (decider old.rules ask) (decider new.rules ask) && differs old.rules new.rules ask)) (none_up differ known e)
    ∙ plain (is_shown known.found (decider old.rules ask) (decider new.rules ask)) (differs old.rules new.rules ask)

pub pairs_are_all : PairsAreAll
pairs_are_all old new most made text written paired ask is =
    paired_all old new (length written.differ) (length written.found) (length written.left) written.pairs written.results.are_pairs
    (sym paired ∙ written.verdict) ask is

asks_of_pairs : (old new : Configuration) (pairs : Option Findings) → IfSome pairs (λ known. AreSought (asks_of old new) old.rules new.rules known)
    → IfSome pairs (λ known. AllByRecursion (λ shown. IsAskOf old new shown.ask × IsDecidedBy (asks_of old new) old.rules new.rules shown) known.found)
asks_of_pairs old new None sought = tt
asks_of_pairs old new (Some known) sought =
    each_weaker (λ shown. IsDecidedBy (asks_of old new) old.rules new.rules shown)
    (λ shown. IsAskOf old new shown.ask × IsDecidedBy (asks_of old new) old.rules new.rules shown)
    (λ shown is. ((all_asks old new).inner shown.ask is.in_shape, is)) known.found
    (are_pairs (asks_of old new) old.rules new.rules known sought).asks

pub pairs_have_asks : PairsHaveAsks
pairs_have_asks old new most made text written = asks_of_pairs old new written.pairs written.results.are_pairs

-- ---- regions

pub lines_are_true : LinesAreTrue
lines_are_true old new most made text written =
    each_weaker (λ f. (ask : Ask) → lies_in_one (asks_of old new) ask ≡ true → lies f.region ask ≡ true → IsDecided old.rules new.rules f ask)
    (λ f. (ask : Ask) → IsAskOf old new ask → lies f.region ask ≡ true → IsDecided old.rules new.rules f ask)
    (λ f is ask one within. is ask (there old new ask one) within) written.found written.results.summary.verdicts

pub lines_have_asks : LinesHaveAsks
lines_have_asks old new most made text written =
    each_weaker (λ f. (lies f.region f.ask && lies_in_one (asks_of old new) f.ask) ≡ true)
    (λ f. (lies f.region f.ask ≡ true) × IsAskOf old new f.ask)
    (λ f both. let parts = and_parts (lies f.region f.ask) (lies_in_one (asks_of old new) f.ask) both in
    (parts.0, (all_asks old new).inner f.ask parts.1)) written.found written.results.summary.asks

pub none_has_ask : NoneHasAsk
none_has_ask old new most made text written lines =
    each_weaker (λ f. NoneIsMeant (asks_of old new) f.region)
    (λ f. (field : FieldName) → has (value_of field f.region) None ≡ true → is_any (value_of field f.region) ≡ false
    → (ask : Ask) × (lies f.region ask ≡ true) × IsAskOf old new ask × (value_of field ask ≡ None))
    (λ f meant field may some. let is = meant field may some in
    (is.ask, is.there, (all_asks old new).inner is.ask is.in_shape, is.lacks)) written.found (written.results.or_none lines)

pub operation_has_ask : OperationHasAsk
operation_has_ask old new most made text written lines =
    each_weaker (λ f. OperationIsMeant (asks_of old new) f.region)
    (λ f. (operation : Option ℕ) → is_open f.region ≡ false → has f.region.operation operation ≡ true
    → (ask : Ask) × (lies f.region ask ≡ true) × IsAskOf old new ask × (ask.operation ≡ operation))
    (λ f meant operation shut may. let is = meant shut operation may in
    (is.ask, is.there, (all_asks old new).inner is.ask is.in_shape, is.named)) written.found (written.results.operations lines)
