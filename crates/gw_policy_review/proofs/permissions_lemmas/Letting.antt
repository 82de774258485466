-- An ask of a shape is allowed only by a rule that lets somebody, by what is found of the rules over the asks of the shape.
use Rattle.std.proofs.Common.{◌≡◌, ◌∙◌, inl, ℕ, ◌+◌, ◌-◌, ◌<◌, Bool, true, false, List, [], ◌∷◌, ◌++◌, Some, ap, arith, get_or, length, refl, slice_get, subst, sym, take}
use Rattle.std.specs.Bool.{⊤}
use Rattle.std.specs.Prelude.{unwrap_or}
use Rattle.std.proofs.lemmas.Bool.{both_ways}
use Rattle.std.proofs.lemmas.Option.{slice_get-get_or, slice_get_within}
use Rattle.gw_configuration.specs.Configuration.{Configuration}
use Rattle.gw_rules.specs.Ask.{Ask}
use Rattle.gw_rules.specs.RuleList.{HasNumber, IsFirst, allows, first}
use Rattle.gw_rules.specs.declared.rule.Rule.{Rule}
use Rattle.gw_rules.proofs.First.{allows_iff, first_iff}
use Rattle.gw_ask_sets.specs.shapes.Shape.{LiesInOne, Shape}
use Rattle.gw_script.specs.Order.{in_order}
use Rattle.gw_script.proofs.Order.{in_order_front, in_order_next}
use Rattle.gw_policy_review.specs.lint.Finding.{AreTrue, Finds}
use Rattle.gw_policy_review.specs.permissions.Laws.{NoneIsLet, OnlyLettingAllow, SomeAreAllowed}
use Rattle.gw_policy_review.specs.permissions.Passing.{finding_at, lets}
use Rattle.gw_policy_review.specs.permissions.Permissions.{grant_line, grant_words, grants_text}
use Rattle.gw_policy_review.specs.declared.lint.finding.Finding.{Finding}
use Rattle.gw_policy_review.specs.declared.lint.finding.Finding.TheVariants as finding
use Rattle.gw_policy_review.specs.declared.permissions.grants.Deed.{Deed}
use Rattle.gw_policy_review.specs.declared.permissions.grants.Deed.TheVariants as deeds

-- what is found of the rule of a number is there, and true of it
found_there : (shapes : List Shape) (rules : List Rule) (left rest : ℕ) (findings : List Finding) (number : ℕ) (rule : Rule)
    → AreTrue shapes rules left rest findings → HasNumber rules number rule → slice_get findings (number - 1) ≡ Some (get_or findings (number - 1) finding.MatchesNothing)
found_there shapes rules left rest findings number rule are has =
    let count = are.count in
    let within : number - 1 < length rules = slice_get_within rules (number - 1) rule has.there in
    slice_get-get_or findings (number - 1) finding.MatchesNothing (omega (arith, count, within))

pub finds_at : (shapes : List Shape) (rules : List Rule) (left rest : ℕ) (findings : List Finding) (number : ℕ) (rule : Rule)
    → AreTrue shapes rules left rest findings → HasNumber rules number rule → Finds shapes rules number rule (finding_at findings number)
finds_at shapes rules left rest findings number rule are has =
    let there = found_there shapes rules left rest findings number rule are has in
    let found = get_or findings (number - 1) finding.MatchesNothing in
    let same : found ≡ finding_at findings number = sym (ap (λ o. unwrap_or o finding.MatchesNothing) there) in
    subst (λ (f : Finding). Finds shapes rules number rule f) same (are.each number rule found has there)

-- what is found of a rule that is the first to match an ask of the shapes: it decides one, or that isn't known
abbrev pub MayDecide : Finding → Type 0
MayDecide (finding.Decides ask) = ⊤
MayDecide finding.Unknown = ⊤
MayDecide _ = ⊥

pub deciding_found : (shapes : List Shape) (rules : List Rule) (ask : Ask) (number : ℕ) (found : Finding) (deciding : IsFirst rules ask number) → LiesInOne shapes ask
    → first rules ask ≡ Some number → Finds shapes rules number deciding.rule found → MayDecide found
deciding_found shapes rules ask number finding.MatchesNothing deciding lies is tells = tells ask lies deciding.matching
deciding_found shapes rules ask number (finding.TakenBy by) deciding lies is tells =
    let taken = tells.1 in
    deciding.least by taken.earlier taken.before taken.numbered (taken.takes ask lies deciding.matching)
deciding_found shapes rules ask number finding.TakenTogether deciding lies is tells = tells.2 ask lies is
deciding_found shapes rules ask number (finding.Decides other) deciding lies is tells = tt
deciding_found shapes rules ask number finding.Unknown deciding lies is tells = tt

-- if it allows, it lets somebody
letting : (rule : Rule) (found : Finding) → rule.allow ≡ true → MayDecide found → lets rule found ≡ true
letting rule finding.MatchesNothing allow may = absurd may
letting rule (finding.TakenBy by) allow may = absurd may
letting rule finding.TakenTogether allow may = absurd may
letting rule (finding.Decides ask) allow may = allow
letting rule finding.Unknown allow may = allow

pub only_letting_allow : OnlyLettingAllow
only_letting_allow shapes rules left rest findings ask are lies t =
    let by = (allows_iff rules ask).0 t in
    let deciding = by.1 in
    let is : first rules ask ≡ Some by.0 = (first_iff rules ask by.0).1 deciding in
    let tells = finds_at shapes rules left rest findings by.0 deciding.rule are deciding.numbered in
    let may = deciding_found shapes rules ask by.0 (finding_at findings by.0) deciding lies is tells in
    (by.0, deciding.rule, deciding.numbered, is, letting deciding.rule (finding_at findings by.0) by.2 may)

pub some_are_allowed : SomeAreAllowed
some_are_allowed shapes rules left rest findings number rule ask are has is allow =
    let tells : Finds shapes rules number rule (finding.Decides ask) =
    subst (λ (f : Finding). Finds shapes rules number rule f) is (finds_at shapes rules left rest findings number rule are has) in
    let firstly = tells.2 in
    let deciding = (first_iff rules ask number).0 firstly.1 in
    let both : Some deciding.rule ≡ Some rule = sym deciding.numbered.there ∙ has.there in
    let same : deciding.rule ≡ rule = cc in
    (firstly.0, firstly.1, (allows_iff rules ask).1 (number, deciding, ap (λ (r : Rule). r.allow) same ∙ allow))

-- ---- the lines

-- an empty text has no part
no_part : (a b c : List ℕ) → (a ++ b) ++ c ≡ [] → b ≡ []
no_part [] [] c e = refl
no_part [] (x ∷ b) c e = absurd cc
no_part (x ∷ a) b c e = absurd cc

words_there : (c : Configuration) (lines : List ℕ) (deed : Deed) (shape : Shape) (number : ℕ) (rule : Rule) (found : Finding)
    → grant_words c lines deed shape number rule found ≡ [] → ⊥
words_there c lines (deeds.Enter port) shape number rule found e = absurd cc
words_there c lines deeds.Claim shape number rule found e = absurd cc

-- if no line is there, the rule of a number lets nobody
not_let : (c : Configuration) (lines : List ℕ) (deed : Deed) (shape : Shape) (findings : List Finding) (number : ℕ) (rule : Rule)
    → HasNumber c.rules number rule → grants_text c lines deed shape findings ≡ [] → lets rule (finding_at findings number) ≡ false
not_let c lines deed shape findings number rule has none =
    let text = grant_line c lines deed shape findings in
    let place = number - 1 in
    let within : place < length c.rules = slice_get_within c.rules place rule has.there in
    let counted = has.counted in
    let back : 1 + place ≡ number = omega (arith, counted) in
    let parted = in_order_front text 1 (place + 1) c.rules in
    let line = text (1 + place) (get_or c.rules place rule) in
    let whole : (in_order text 1 (take place c.rules) ++ line) ++ parted.0 ≡ [] =
    sym (parted.1 ∙ ap (λ (t : List ℕ). t ++ parted.0) (in_order_next text 1 c.rules place rule within)) ∙ none in
    let empty : line ≡ [] = no_part (in_order text 1 (take place c.rules)) line parted.0 whole in
    let both : Some (get_or c.rules place rule) ≡ Some rule = sym (slice_get-get_or c.rules place rule within) ∙ has.there in
    let same : get_or c.rules place rule ≡ rule = cc in
    let here : text number rule ≡ [] = sym (ap (λ (n : ℕ). text n rule) back) ∙ sym (ap (λ (r : Rule). text (1 + place) r) same) ∙ empty in
    by (lets rule (finding_at findings number)) refl here
  where
    by : (b : Bool) → lets rule (finding_at findings number) ≡ b → grant_line c lines deed shape findings number rule ≡ []
        → b ≡ false
    by false e here = refl
    by true e here =
        absurd (words_there c lines deed shape number rule (finding_at findings number) (rw e at here))

pub none_is_let : NoneIsLet
none_is_let c lines deed shape left rest findings ask are none lies = by (allows c.rules ask) refl
  where
    by : (b : Bool) → allows c.rules ask ≡ b → b ≡ false
    by false e = refl
    by true e =
        let found = only_letting_allow (shape ∷ []) c.rules left rest findings ask are (inl lies) e in
        absurd (both_ways (lets found.1 (finding_at findings found.0)) (not_let c lines deed shape findings found.0 found.1 found.2 none) found.4)
