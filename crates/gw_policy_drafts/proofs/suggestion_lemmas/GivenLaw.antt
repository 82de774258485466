-- Asks that are added once.
use Rattle.std.proofs.Common.{◌≡◌, ◌∙◌, sym, ap, refl, ℕ, ◌+◌, ◌<◌, Bool, true, false, ◌||◌, List, [], ◌∷◌, ◌++◌, add-one, get_or, length, take}
use Rattle.std.proofs.Math.Seq.{take-suc}
use Rattle.std.proofs.lemmas.Grind.{flat_map-append}
use Rattle.std.proofs.lemmas.List.{append-nil}
use Rattle.std.specs.List.{flat_map, list_any}
use Rattle.std.proofs.lemmas.List.Folds.{list_any-append}
use Rattle.std.specs.Prelude.{if◌then◌else◌, not}
use Rattle.gw_rules.specs.Ask.{Ask}
use Rattle.gw_rules.specs.RuleList.{allows}
use Rattle.gw_rules.specs.declared.rule.Rule.{Rule}
use Rattle.gw_ask_sets.proofs.regions_lemmas.RangeLaw.{or_none}
use Rattle.gw_policy_drafts.specs.suggestion.Given.{Adds, AddsAll, Has, denied}

pub adds_known : (asks : List Ask) (ask : Ask) → Has asks ask → Adds asks asks ask
adds_known asks ask has test = by (test ask) refl
  where
    absorbed : (b : Bool) → b ≡ true → b ≡ (b || true)
    absorbed true e = refl
    absorbed false e = e

    by : (b : Bool) → test ask ≡ b → list_any test asks ≡ (list_any test asks || test ask)
    by true e = absorbed (list_any test asks) (has test e) ∙ sym (ap (λ b. list_any test asks || b) e)
    by false e = sym (ap (λ b. list_any test asks || b) e ∙ or_none (list_any test asks))

pub adds_new : (asks : List Ask) (ask : Ask) → Adds asks (asks ++ ask ∷ []) ask
adds_new asks ask test =
    list_any-append test asks (ask ∷ []) ∙ ap (λ b. list_any test asks || b) (or_none (test ask))

or_more : (a b c : Bool) → ((a || b) || c) ≡ (a || (b || c))
or_more true b c = refl
or_more false b c = refl

-- what is made of one item more is added
pub adds_step : {A : Type 0} (make : A → List Ask) (items : List A) (place : ℕ) (d : A) (before now after : List Ask) → place < length items
    → AddsAll before now (flat_map make (take place items)) → AddsAll now after (make (get_or items place d))
    → AddsAll before after (flat_map make (take (place + 1) items))
adds_step make items place d before now after within so_far one test =
    let next : take (place + 1) items ≡ take place items ++ get_or items place d ∷ [] =
    ap (λ n. take n items) (add-one place) ∙ take-suc items place d within in
    let made : flat_map make (take (place + 1) items) ≡ flat_map make (take place items) ++ make (get_or items place d) =
    ap (flat_map make) next ∙ flat_map-append make (take place items) (get_or items place d ∷ [])
    ∙ ap (λ (xs : List Ask). flat_map make (take place items) ++ xs) (append-nil (make (get_or items place d))) in
    one test ∙ ap (λ b. b || list_any test (make (get_or items place d))) (so_far test)
    ∙ or_more (list_any test before) (list_any test (flat_map make (take place items))) (list_any test (make (get_or items place d)))
    ∙ ap (λ b. list_any test before || b)
    (sym (list_any-append test (flat_map make (take place items)) (make (get_or items place d))) ∙ ap (list_any test) (sym made))

-- an ask that these rules allow isn't added, and one that they deny is
pub taken_none : (rules : List Rule) (ask : Ask) (given : List Ask) → allows rules ask ≡ true → AddsAll given given (denied rules (ask ∷ []))
taken_none rules ask given e test =
    sym (
    ap (λ (b : Bool). list_any test given || list_any test (if not b then ask ∷ [] else [])) e ∙ or_none (list_any test given)
    )

pub taken_one : (rules : List Rule) (ask : Ask) (before after : List Ask) → allows rules ask ≡ false → Adds before after ask
    → AddsAll before after (denied rules (ask ∷ []))
taken_one rules ask before after e added test =
    added test
    ∙ ap (λ b. list_any test before || b) (sym (or_none (test ask)))
    ∙ sym (ap (λ (b : Bool). list_any test before || list_any test (if not b then ask ∷ [] else [])) e)

pub none_added : (given : List Ask) → AddsAll given given []
none_added given test = sym (or_none (list_any test given))

pub one_added : (before after : List Ask) (ask : Ask) → Adds before after ask → AddsAll before after (ask ∷ [])
one_added before after ask added test = added test ∙ ap (λ b. list_any test before || b) (sym (or_none (test ask)))
