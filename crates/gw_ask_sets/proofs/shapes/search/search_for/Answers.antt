use Rattle.std.proofs.Common.{◌≡◌, ◌∙◌, ◌-◌, ◌≤◌, ℕ, ap, arith, get_or, inl, inr, length, refl, subst, sym, take, List}
use Rattle.std.proofs.lemmas.Option.{slice_get_within}
use Rattle.gw_rules.specs.RuleList.{HasNumber}
use Rattle.gw_rules.specs.declared.rule.Rule.{Rule}
use Rattle.gw_ask_sets.specs.regions.Unmatched.{EndsWith}
use Rattle.gw_ask_sets.specs.regions.Regions.{Region}
use Rattle.gw_ask_sets.specs.shapes.Search.{AreMatched, IsMade, unmatched_of}
use Rattle.gw_ask_sets.specs.shapes.Shape.{Shape}
use Rattle.gw_ask_sets.specs.declared.shapes.search.Outcome.{Outcome}
use Rattle.gw_ask_sets.specs.declared.regions.unmatched.Unmatched.{Unmatched}
use Rattle.gw_ask_sets.proofs.shapes_lemmas.Narrowing.{no_rule, numbered_at}
use Rattle.gw_ask_sets.proofs.shapes_lemmas.Seeking.{is_found}
use Rattle.gw_ask_sets.proofs.shapes.search.search_for.Goals as goal
use Rattle.gw_ask_sets.proofs.shapes.search.search_for.Goals.{then-count-eq0-via-then-count-eq0, then-count-eq0-via-else-count-eq0+then-rules-count}

pub returns-then-count-eq0-clause-found : goal.returns-then-count-eq0-clause-found
returns-then-count-eq0-clause-found c =
    no_rule c.args.shapes.now c.args.rules.now c.args.number (
    λ rule has.
    let one = has.counted in
    let within = slice_get_within c.args.rules.now (c.args.number - 1) rule has.there in
    elim c.then-count-eq0.branch [
      | then-count-eq0-via-then-count-eq0 w ↦ omega (arith, one, w.if-count-eq0.true, c.from-count.ensures)
      | then-count-eq0-via-else-count-eq0+then-rules-count w ↦ omega (arith, one, within, w.if-rules-count.true, c.from-count.ensures)
    ]
    )

pub returns-then-count-eq0-clause-made : goal.returns-then-count-eq0-clause-made
returns-then-count-eq0-clause-made c = inr (record {
  no_rule = λ rule has.
      let one = has.counted in
      let within = slice_get_within c.args.rules.now (c.args.number - 1) rule has.there in
      elim c.then-count-eq0.branch [
        | then-count-eq0-via-then-count-eq0 w ↦ omega (arith, one, w.if-count-eq0.true, c.from-count.ensures)
        | then-count-eq0-via-else-count-eq0+then-rules-count w ↦ omega (arith, one, within, w.if-rules-count.true, c.from-count.ensures)
      ];
  counted = refl;
  never = refl;
})

-- the rule of the number
has : (rules : List Rule) (number count : ℕ) (rule : Rule) → count ≡ number → 1 ≤ count → count ≤ length rules → rule ≡ get_or rules (count - 1) rule
    → HasNumber rules number rule
has rules number count rule e one within is =
    numbered_at rules number rule (omega (arith, e, one)) (omega (arith, e, within)) (is ∙ ap (λ (n : ℕ). get_or rules (n - 1) rule) e)

-- the search that is made
made : (shapes : List Shape) (rules : List Rule) (number count given : ℕ) (rule : Rule) (regions : List Region) (steps : ℕ) (was : Unmatched) (found : Outcome)
    → count ≡ number → HasNumber rules number rule → AreMatched shapes rule regions → EndsWith (take (count - 1) rules) regions given steps was
    → unmatched_of found ≡ was → IsMade shapes rules number given steps found
made shapes rules number count given rule regions steps was found e there are ended is = record {
  rule = rule;
  numbered = there;
  regions = regions;
  matched = are;
  ended = subst (λ (o : Unmatched). EndsWith (take (number - 1) rules) regions given steps o) (sym is)
      (subst (λ (n : ℕ). EndsWith (take (n - 1) rules) regions given steps was) e ended);
}

pub returns-clause-found : goal.returns-clause-found
returns-clause-found c =
    let rules = c.args.rules.now in
    let there = has rules c.args.number c.from-count.result c.index-rules-count.result c.from-count.ensures
    (omega (arith, c.if-count-eq0.false)) (omega (arith, c.if-rules-count.false)) c.index-rules-count.is in
    is_found c.args.shapes.now rules c.args.number c.args.steps c.in_ok-searched.searched.steps c.outcome_of.result
    (made c.args.shapes.now rules c.args.number c.from-count.result c.args.steps c.index-rules-count.result c.in_ok-regions.regions.items
    c.in_ok-searched.searched.steps c.in_ok-searched.searched.outcome c.outcome_of.result c.from-count.ensures there c.in_ok-regions.ensures
    c.in_ok-searched.ensures.ended c.outcome_of.ensures)

pub returns-clause-made : goal.returns-clause-made
returns-clause-made c =
    let rules = c.args.rules.now in
    let there = has rules c.args.number c.from-count.result c.index-rules-count.result c.from-count.ensures
    (omega (arith, c.if-count-eq0.false)) (omega (arith, c.if-rules-count.false)) c.index-rules-count.is in
    inl (made c.args.shapes.now rules c.args.number c.from-count.result c.args.steps c.index-rules-count.result c.in_ok-regions.regions.items
    c.in_ok-searched.searched.steps c.in_ok-searched.searched.outcome c.outcome_of.result c.from-count.ensures there c.in_ok-regions.ensures
    c.in_ok-searched.ensures.ended c.outcome_of.ensures)
