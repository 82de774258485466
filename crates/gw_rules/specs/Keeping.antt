-- What an authorizer and a recorder keep, said as what an asker keeps.
use Rattle.std.specs.Prelude.{◌≡◌, List, [], ◌++◌, map, filter, refl}
use Rattle.std.proofs.Common.{◌∙◌, ap}
use Rattle.std.proofs.lemmas.List.{map-append}
use Rattle.std.proofs.lemmas.List.Elements.{filter-append}
use Rattle.gw_rules.specs.declared.refusal.Refusal.{Refusal}
use Rattle.gw_rules.specs.declared.rule.Rule.{Rule}
use Rattle.gw_rules.specs.declared.verdict.Verdict.{Verdict}
use Rattle.gw_rules.specs.Ask.{Ask}
use Rattle.gw_rules.specs.Asker.{verdict, verdict_of_refusal, verdicts_of}
use Rattle.gw_rules.specs.Authorizer.{denied_of, refusal}
use Rattle.gw_rules.specs.RuleList.{is_logged}

-- an authorizer keeps the verdicts on the asks that are logged
abbrev pub kept_refusals : List Refusal → List Verdict
kept_refusals refusals = map verdict_of_refusal refusals

pub no_refusal_kept : (rules : List Rule) → kept_refusals (denied_of rules []) ≡ []
no_refusal_kept rules = refl

pub both_refusals_kept : (rules : List Rule) (one two : List Ask)
    → kept_refusals (denied_of rules (one ++ two)) ≡ kept_refusals (denied_of rules one) ++ kept_refusals (denied_of rules two)
both_refusals_kept rules one two =
    ap (λ asks. kept_refusals (map (refusal rules) asks)) (filter-append (is_logged rules) one two)
    ∙ ap kept_refusals (map-append (refusal rules) (filter (is_logged rules) one) (filter (is_logged rules) two))
    ∙ map-append verdict_of_refusal (denied_of rules one) (denied_of rules two)

pub no_verdict_kept : (rules : List Rule) → verdicts_of rules [] ≡ []
no_verdict_kept rules = refl

pub both_verdicts_kept : (rules : List Rule) (one two : List Ask)
    → verdicts_of rules (one ++ two) ≡ verdicts_of rules one ++ verdicts_of rules two
both_verdicts_kept rules one two = map-append (verdict rules) one two
