use Rattle.std.proofs.Common.{◌≡◌, ◌∙◌, ◌++◌, ℕ, List, ap, arith, length, refl}
use Rattle.gw_ask_sets.specs.declared.regions.comparison.Found.{Found}
use Rattle.gw_policy_review.specs.comparison.Comparison.{asks_text, judged_by}
use Rattle.gw_policy_review.specs.comparison.Lines.{Naming, naming}
use Rattle.gw_policy_review.specs.comparison.PairLines.{known_of}
use Rattle.gw_policy_review.specs.comparison.PartLines.{details}
use Rattle.gw_policy_review.proofs.comparison.comparison.comparison_of.Goals as goal

pub returns : goal.returns
returns c = λ is.
    let old = c.args.old.now in
    let new = c.args.new.now in
    let results = c.args.results.now in
    let found = results.summary.found.items in
    let left = results.summary.left.items in
    let known = known_of results.pairs in
    let differ = c.in_ok-differ.differ.items in
    let made = c.judged_by-made.result in
    let most = c.args.how.most in
    let shown = c.deref-2.result.now in
    let is_differ : c.len.result ≡ length differ = omega (arith, c.in_ok-differ.differ.ok.0, c.len.ensures) in
    let is_found : c.len-2.result ≡ length found = omega (arith, results.summary.found.ok.0, c.len-2.ensures) in
    let is_left : c.len-3.result ≡ length left = omega (arith, results.summary.left.ok.0, c.len-3.ensures) in
    let before = naming old c.args.how.old_lines.now in
    let after = naming new c.args.how.new_lines.now in
    let is_old : c.new-before.result ≡ before = c.new-before.ensures in
    let is_new : c.new-after.result ≡ after = c.new-after.ensures in (
      record {
        differ = differ;
        are_differences = c.in_ok-differ.ensures;
        found = found;
        left = left;
        steps = results.summary.steps;
        pairs = known;
        results = is;
        verdict = c.judged_by-made.ensures ∙ ap (λ (n : ℕ). judged_by n c.len-2.result c.len-3.result known) is_differ
            ∙ ap (λ (n : ℕ). judged_by (length differ) n c.len-3.result known) is_found
            ∙ ap (λ (n : ℕ). judged_by (length differ) (length found) n known) is_left;
        written = c.in_ok-put_asks.ensures
            ∙ ap (λ (text : List ℕ). text ++ asks_text c.new-before.result c.new-after.result most made shown known)
            (c.in_ok-text.ensures ∙ ap (details old new) c.deref.ensures.value)
            ∙ ap (λ (names : Naming). details old new differ ++ asks_text names c.new-after.result most made shown known) is_old
            ∙ ap (λ (names : Naming). details old new differ ++ asks_text before names most made shown known) is_new
            ∙ ap (λ (xs : List Found). details old new differ ++ asks_text before after most made xs known) c.deref-2.ensures.value;
      },
      refl,
    )
