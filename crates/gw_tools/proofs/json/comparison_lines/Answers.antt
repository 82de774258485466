use Rattle.std.proofs.Common.{◌≡◌, ◌∙◌, ◌++◌, ℕ, List, ap, arith, length, subst}
use Rattle.gw_json.specs.Results.{results_lines}
use Rattle.gw_configuration.specs.Configuration.{Configuration}
use Rattle.gw_policy_review.specs.comparison.Comparison.{AreResults, judged_by}
use Rattle.gw_policy_review.specs.comparison.PairLines.{known_of}
use Rattle.gw_policy_review.specs.declared.comparison.parts.Part.{Part}
use Rattle.gw_rules.specs.declared.rule.Rule.{Rule}
use Rattle.gw_tools.specs.Json.{IsPartsLine}
use Rattle.gw_tools.proofs.json.comparison_lines.Goals as goal

pub returns : goal.returns
returns c = λ is_first is_second under.
    let old = c.args.old.now in
    let new = c.args.new.now in
    let before = c.rules-2.result.now in
    let after = c.rules-4.result.now in
    let differ = c.in_ok-differ.differ.items in
    let ahead = c.in_ok-text.text.items in
    let at = c.args.comparing in
    let results = c.in_ok-results.results in
    let summary = results.summary in
    let found = summary.found.items in
    let left = summary.left.items in
    let known = known_of results.pairs in
    let most = c.args.most in
    let is_old : before ≡ old.rules = c.rules-2.ensures.rules ∙ c.rules.ensures.rules in
    let is_new : after ≡ new.rules = c.rules-4.ensures.rules ∙ c.rules-3.ensures.rules in
    let is_differ : c.len.result ≡ length differ = omega (arith, c.in_ok-differ.differ.ok.0, c.len.ensures) in
    let is_found : c.len-2.result ≡ length found = omega (arith, summary.found.ok.0, c.len-2.ensures) in
    let is_left : c.len-3.result ≡ length left = omega (arith, summary.left.ok.0, c.len-3.ensures) in
    record {
      differ = differ;
      are_differences = c.in_ok-differ.ensures;
      ahead = ahead;
      is_ahead = subst (λ (parts : List Part). IsPartsLine old new parts ahead) c.deref.ensures.value c.in_ok-text.ensures;
      found = found;
      left = left;
      steps = summary.steps;
      pairs = known;
      results = subst (λ (one : Configuration). AreResults one new found left summary.steps known) is_first
          (subst (λ (other : Configuration). AreResults at.old_one other found left summary.steps known) is_second
          (c.in_ok-results.ensures.results under));
      verdict = c.judged_by-made.ensures ∙ ap (λ (n : ℕ). judged_by n c.len-2.result c.len-3.result known) is_differ
          ∙ ap (λ (n : ℕ). judged_by (length differ) n c.len-3.result known) is_found
          ∙ ap (λ (n : ℕ). judged_by (length differ) (length found) n known) is_left;
      lines = c.in_ok-put_results.ensures ∙ ap (λ (rules : List Rule). ahead ++ results_lines rules after most summary.steps found known) is_old
          ∙ ap (λ (rules : List Rule). ahead ++ results_lines old.rules rules most summary.steps found known) is_new;
    }
