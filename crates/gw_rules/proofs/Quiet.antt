-- Whether rules are quiet decides nothing.
use Rattle.std.proofs.Common.{◌≡◌, ℕ, ◌+◌, ◌-◌, false, List, [], ◌∷◌, Option, Some, None, cond, length, nat_lt, not, refl, sym, ◌∙◌, ap}
use Rattle.std.specs.Prelude.{if◌then◌else◌}
use Rattle.std.specs.List.{position, position_or_len, slice_get}
use Rattle.std.specs.Option.{option_map, option_map_or}
use Rattle.std.proofs.lemmas.List.{length-map}
use Rattle.std.proofs.lemmas.Option.{slice_get-map}
use Rattle.gw_rules.specs.Ask.{Ask}
use Rattle.gw_rules.specs.declared.decision.Decision.TheVariants.{Allow, Deny}
use Rattle.gw_rules.specs.declared.rule.Rule.{Rule}
use Rattle.gw_rules.specs.Rule.{matches}
use Rattle.gw_rules.specs.RuleList.{allows, allows_at, decide, first, spoken, without_quiet}

spoken_matches : (rule : Rule) (ask : Ask) → matches (spoken rule) ask ≡ matches rule ask
unfolding matches
spoken_matches rule ask = refl

spoken_len : (rules : List Rule) (ask : Ask) → position_or_len (λ rule. matches rule ask) (without_quiet rules) ≡ position_or_len (λ rule. matches rule ask) rules
spoken_len [] ask = refl
spoken_len (rule ∷ rules) ask =
    ap (λ b. cond (not b) (1 + position_or_len (λ rule. matches rule ask) (without_quiet rules)) 0) (spoken_matches rule ask)
    ∙ ap (λ n. cond (not (matches rule ask)) (1 + n) 0) (spoken_len rules ask)

-- the place among so many
abbrev placed : ℕ → ℕ → Option ℕ
placed n count = cond (nat_lt n count) (Some n) None

spoken_place : (rules : List Rule) (ask : Ask) → position (λ rule. matches rule ask) (without_quiet rules) ≡ position (λ rule. matches rule ask) rules
spoken_place rules ask =
    ap (λ n. placed n (length (without_quiet rules))) (spoken_len rules ask)
    ∙ ap (placed (position_or_len (λ rule. matches rule ask) rules)) (length-map rules spoken)

spoken_first : (rules : List Rule) (ask : Ask) → first (without_quiet rules) ask ≡ first rules ask
unfolding first
spoken_first rules ask = ap (λ o. option_map (λ place. place + 1) o) (spoken_place rules ask)

allows_alike : (o : Option Rule) → option_map_or (λ (rule : Rule). rule.allow) (option_map spoken o) false ≡ option_map_or (λ (rule : Rule). rule.allow) o false
allows_alike None = refl
allows_alike (Some rule) = refl

spoken_allows_at : (rules : List Rule) (number : ℕ) → allows_at (without_quiet rules) number ≡ allows_at rules number
spoken_allows_at rules number =
    ap (λ o. option_map_or (λ (rule : Rule). rule.allow) o false) (slice_get-map spoken rules (number - 1))
    ∙ allows_alike (slice_get rules (number - 1))

allows_by : (rules : List Rule) (by : Option ℕ) → option_map_or (allows_at (without_quiet rules)) by false ≡ option_map_or (allows_at rules) by false
allows_by rules None = refl
allows_by rules (Some number) = spoken_allows_at rules number

spoken_allows : (rules : List Rule) (ask : Ask) → allows (without_quiet rules) ask ≡ allows rules ask
unfolding allows
spoken_allows rules ask =
    ap (λ by. option_map_or (allows_at (without_quiet rules)) by false) (spoken_first rules ask) ∙ allows_by rules (first rules ask)

pub first_alike : (one two : List Rule) (ask : Ask) → without_quiet one ≡ without_quiet two → first one ask ≡ first two ask
first_alike one two ask same = sym (spoken_first one ask) ∙ (ap (λ rules. first rules ask) same ∙ spoken_first two ask)

pub allows_as : (one two : List Rule) (ask : Ask) → without_quiet one ≡ without_quiet two → allows one ask ≡ allows two ask
allows_as one two ask same = sym (spoken_allows one ask) ∙ (ap (λ rules. allows rules ask) same ∙ spoken_allows two ask)

pub decide_alike : (one two : List Rule) (ask : Ask) → without_quiet one ≡ without_quiet two → decide one ask ≡ decide two ask
decide_alike one two ask same =
    ap (λ yes. if yes then Allow else Deny (first one ask)) (allows_as one two ask same)
    ∙ ap (λ by. if allows two ask then Allow else Deny by) (first_alike one two ask same)
