-- What is logged of what is denied: all but what a quiet rule denies.
use Rattle.std.proofs.Common.{◌≡◌, ◌∙◌, ap, ap₂, refl, sym, Bool, true, false, not, cond, ◌&&◌, List, [], ◌∷◌, length, map}
use Rattle.std.specs.Prelude.{filter, if◌then◌else◌}
use Rattle.std.specs.List.{list_all}
use Rattle.std.specs.Option.{option_map_or}
use Rattle.std.proofs.lemmas.List.{length-map}
use Rattle.gw_rules.specs.Ask.{Ask}
use Rattle.gw_rules.specs.Authorizer.{denied_of, refusal}
use Rattle.gw_rules.specs.RuleList.{allows, first, is_logged, is_quiet_by}
use Rattle.gw_rules.specs.declared.refusal.Refusal.{Refusal}
use Rattle.gw_rules.specs.declared.rule.Rule.{Rule}

-- denied, and denied aloud
abbrev pub is_denied : List Rule → Ask → Bool
is_denied rules ask = not (allows rules ask)

abbrev pub is_loud : List Rule → Ask → Bool
is_loud rules ask = not (is_quiet_by rules (first rules ask))

-- what is logged is what is denied aloud of what is denied
pub logged_of : (rules : List Rule) (asks : List Ask) → filter (is_logged rules) asks ≡ filter (is_loud rules) (filter (is_denied rules) asks)
logged_of rules [] = refl
logged_of rules (ask ∷ asks) = by (allows rules ask) (is_quiet_by rules (first rules ask)) refl refl (logged_of rules asks)
  where
    by : (b quiet : Bool) → allows rules ask ≡ b → is_quiet_by rules (first rules ask) ≡ quiet
        → filter (is_logged rules) asks ≡ filter (is_loud rules) (filter (is_denied rules) asks)
        → filter (is_logged rules) (ask ∷ asks) ≡ filter (is_loud rules) (filter (is_denied rules) (ask ∷ asks))
    by true quiet is said later = rw is later
    by false true is said later = rw (is, said) later
    by false false is said later = rw (is, said) (ap (λ (l : List Ask). ask ∷ l) later)

-- one ask that is denied is one refusal, unless it is denied quietly
pub logged_once : (rules : List Rule) (asks : List Ask) (refused : Ask) → filter (is_denied rules) asks ≡ refused ∷ []
    → length (denied_of rules asks) ≡ (if is_quiet_by rules (first rules refused) then 0 else 1)
logged_once rules asks refused one =
    length-map (filter (is_logged rules) asks) (refusal rules)
    ∙ ap (λ (l : List Ask). length l) (logged_of rules asks ∙ ap (λ (l : List Ask). filter (is_loud rules) l) one)
    ∙ by (is_quiet_by rules (first rules refused))
  where
    by : (quiet : Bool) → length (cond (not quiet) (refused ∷ []) []) ≡ (if quiet then 0 else 1)
    by true = refl
    by false = refl
