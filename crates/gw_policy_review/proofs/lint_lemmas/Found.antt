-- What findings say of the rules.
use Rattle.std.proofs.Common.{◌≡◌, ◌∙◌, inl, inr, refl, ℕ, ◌+◌, ◌-◌, ◌<◌, List, [], ◌∷◌, ◌++◌, Some, None, get_or, length, sym, ap, subst, arith, slice_get}
use Rattle.std.proofs.lemmas.Bool.{cases_order}
use Rattle.std.proofs.lemmas.List.{get_or_append_left, get_or_at, length-append}
use Rattle.std.proofs.lemmas.Option.{slice_get-get_or, slice_get_past}
use Rattle.gw_rules.specs.RuleList.{HasNumber}
use Rattle.gw_rules.specs.declared.rule.Rule.{Rule}
use Rattle.gw_policy_review.specs.lint.Finding.{AreCounted, Finds, IsCounted, IsFinding, steps_given}
use Rattle.gw_ask_sets.specs.shapes.Shape.{Shape}
use Rattle.gw_policy_review.specs.declared.lint.finding.Finding.{Finding}

-- each of the findings that are there says what is true
abbrev pub Each : List Shape → List Rule → List Finding → Type 0
Each boxes rules findings = (number : ℕ) (rule : Rule) (found : Finding) → HasNumber rules number rule
    → slice_get findings (number - 1) ≡ Some found → Finds boxes rules number rule found

-- what is at a place before the end, at the end, and after it
in_front : (xs : List Finding) (y f : Finding) (place : ℕ) → place < length xs → slice_get (xs ++ y ∷ []) place ≡ Some f → slice_get xs place ≡ Some f
in_front xs y f place within there =
    let longer : place < length (xs ++ y ∷ []) = omega (arith, within, length-append xs (y ∷ [])) in
    slice_get-get_or xs place f within ∙ ap Some (sym (get_or_append_left xs (y ∷ []) f place within))
    ∙ sym (slice_get-get_or (xs ++ y ∷ []) place f longer) ∙ there

at_end : (xs : List Finding) (y f : Finding) (place : ℕ) → length xs ≡ place → slice_get (xs ++ y ∷ []) place ≡ Some f → y ≡ f
at_end xs y f place ends there =
    let longer : place < length (xs ++ y ∷ []) = omega (arith, ends, length-append xs (y ∷ [])) in
    let same : Some y ≡ Some f =
    ap Some (sym (get_or_at xs y [] f place ends)) ∙ sym (slice_get-get_or (xs ++ y ∷ []) place f longer) ∙ there in
    cc

past_end : (xs : List Finding) (y f : Finding) (place : ℕ) → length xs < place → slice_get (xs ++ y ∷ []) place ≡ Some f → ⊥
past_end xs y f place past there =
    let none : slice_get (xs ++ y ∷ []) place ≡ None = slice_get_past (xs ++ y ∷ []) place (omega (arith, past, length-append xs (y ∷ []))) in
    let both : None ≡ Some f = sym none ∙ there in
    absurd cc

one_rule : (rules : List Rule) (number : ℕ) (one other : Rule) → HasNumber rules number one → HasNumber rules number other → one ≡ other
one_rule rules number one other a b =
    let both : Some one ≡ Some other = sym a.there ∙ b.there in
    cc

no_finding : (findings : List Finding) (place : ℕ) (found : Finding) → findings ≡ [] → slice_get findings place ≡ Some found → ⊥
no_finding findings place found none there =
    let past : slice_get findings place ≡ None = slice_get_past findings place (omega (arith, ap length none)) in
    let both : None ≡ Some found = sym past ∙ there in
    absurd cc

-- one finding more
each_next : (shapes : List Shape) (rules : List Rule) (findings : List Finding) (place : ℕ) (rule : Rule) (found : Finding)
    → length findings ≡ place → HasNumber rules (place + 1) rule → Finds shapes rules (place + 1) rule found → Each shapes rules findings
    → Each shapes rules (findings ++ found ∷ [])
each_next shapes rules findings place rule found ends has tells each n r f numbered there =
    let counted = numbered.counted in
    elim (cases_order (n - 1) (length findings)) [
      | inl same ↦
          let next : place + 1 ≡ n = omega (arith, same, ends, counted) in
          let is : found ≡ f = at_end findings found f (n - 1) (sym same) there in
          let here : HasNumber rules n rule = subst (λ (m : ℕ). HasNumber rules m rule) next has in
          let said : Finds shapes rules n rule found = subst (λ (m : ℕ). Finds shapes rules m rule found) next tells in
          subst (λ (x : Rule). Finds shapes rules n x f) (one_rule rules n rule r here numbered)
          (subst (λ (x : Finding). Finds shapes rules n rule x) is said)
      | inr apart ↦ elim apart [
        | inl below ↦ each n r f numbered (in_front findings found f (n - 1) below there)
        | inr above ↦ absurd (past_end findings found f (n - 1) above there)
      ]
    ]

-- what the searches for the rules of a list leave, and one more
one_counted : (shapes : List Shape) (rules : List Rule) (number : ℕ) (findings : List Finding) (found : Finding) (left between rest count last : ℕ)
    → AreCounted shapes rules number findings left between → last ≡ number + length findings
    → IsCounted shapes rules last (steps_given between) count found → between ≡ rest + count
    → AreCounted shapes rules number (findings ++ found ∷ []) left rest
one_counted shapes rules number [] found left between rest count last so_far at one are = (
  count,
  rest,
  subst (λ (n : ℕ). IsCounted shapes rules n (steps_given left) count found) (at ∙ omega arith)
      (subst (λ (u : ℕ). IsCounted shapes rules last (steps_given u) count found) so_far one),
  sym so_far ∙ are,
  refl,
)
one_counted shapes rules number (one ∷ findings) found left between rest count last so_far at more are = (
  so_far.0,
  so_far.1,
  so_far.2,
  so_far.3,
  one_counted shapes rules (number + 1) findings found so_far.1 between rest count last so_far.4 (at ∙ omega arith) more are,
)

-- what is found of the first so many rules, and how many of the steps are left
pub record AreFound (shapes : List Shape) (rules : List Rule) (findings : List Finding) (place steps left : ℕ) : Type 0 where
  pub count : length findings ≡ place
  pub each : Each shapes rules findings
  pub counted : AreCounted shapes rules 1 findings steps left

pub none_found : (shapes : List Shape) (rules : List Rule) (findings : List Finding) (steps : ℕ) → findings ≡ []
    → AreFound shapes rules findings 0 steps steps
none_found shapes rules findings steps none =
    subst (λ (fs : List Finding). AreFound shapes rules fs 0 steps steps) (sym none) (record {
      count = refl;
      each = λ number rule found has there. absurd (no_finding [] (number - 1) found refl there);
      counted = refl;
    })

-- there is a rule at a place before the end
rule_at : (rules : List Rule) (place : ℕ) → place < length rules → (rule : Rule) × (slice_get rules place ≡ Some rule)
rule_at [] place within = absurd (omega (arith, within))
rule_at (r ∷ rs) place within = (get_or (r ∷ rs) place r, slice_get-get_or (r ∷ rs) place r within)

-- one finding more, of the rule of a number
pub next_found : (shapes : List Shape) (rules all : List Rule) (findings more : List Finding) (place steps left rest here : ℕ) (found : Finding)
    → all ≡ rules → place < length all → more ≡ findings ++ found ∷ [] → IsFinding shapes all (place + 1) (steps_given left) here found
    → left ≡ rest + here → AreFound shapes rules findings place steps left → AreFound shapes rules more (place + 1) steps rest
next_found shapes rules all findings more place steps left rest here found same within grown told are before =
    let back : place + 1 - 1 ≡ place = omega arith in
    let one = rule_at all place within in
    let there : HasNumber all (place + 1) one.0 = record { counted = omega arith; there = ap (slice_get all) back ∙ one.1 } in
    let has = subst (λ (rs : List Rule). HasNumber rs (place + 1) one.0) same there in
    let is = subst (λ (rs : List Rule). IsFinding shapes rs (place + 1) (steps_given left) here found) same told in
    let count = before.count in
    let long = length-append findings (found ∷ []) in
    subst (λ (fs : List Finding). AreFound shapes rules fs (place + 1) steps rest) (sym grown) (record {
      count = omega (arith, count, long);
      each = each_next shapes rules findings place one.0 found count has (is.each one.0 has) before.each;
      counted = one_counted shapes rules 1 findings found steps left rest here (place + 1) before.counted (omega (arith, count)) is.counted are;
    })
