use Rattle.std.proofs.Common.{◌≡◌, ◌∙◌, ◌++◌, ap, get_or, rules, sym}
use Rattle.gw_policy_review.specs.comparison.Lines.{line_text}
use Rattle.gw_ask_sets.specs.declared.regions.comparison.Found.{Found}
use Rattle.gw_ask_sets.proofs.shapes_lemmas.Listing.{flat_step}
use Rattle.gw_policy_review.proofs.comparison.lines.put_lines.Goals as goal

pub loop-each-preserved : goal.loop-each-preserved
loop-each-preserved c =
    let text = line_text c.args.old.now c.args.new.now in
    let found = c.args.found.now in
    let index = c.loop-each.each-index in
    let item = c.each-item.result in
    let before = c.loop-each.out.items in
    let here : get_or found index item ≡ item = search rules in
    let then : c.put_line.new.out.items ≡ before ++ text item = c.in_ok-put_line.ensures in
    flat_step text found index item c.args.out.now.items before c.put_line.new.out.items c.loop-each-test.true c.loop-each.invariant
    (then ∙ ap (λ (f : Found). before ++ text f) (sym here))
