use Rattle.std.proofs.Common.{◌≡◌, ◌∙◌, ◌++◌, [], ap, get_or, nat_lt, rules, sym, Bool}
use Rattle.std.specs.Prelude.{◌&&◌, if◌then◌else◌}
use Rattle.gw_policy_review.specs.comparison.Groups.{is_like}
use Rattle.gw_policy_review.specs.comparison.Lines.{line_text}
use Rattle.gw_policy_review.proofs.comparison_lemmas.GroupLaw.{member_bound, member_count, member_step}
use Rattle.gw_ask_sets.specs.declared.regions.comparison.Found.{Found}
use Rattle.gw_policy_review.proofs.comparison.groups.put_group_lines.Goals as goal

pub loop-each-preserved : goal.loop-each-preserved
loop-each-preserved c =
    let listing = c.args.listing.now in
    let text = line_text listing.old.now listing.new.now in
    let like = is_like c.args.first.now in
    let found = listing.found.now in
    let place = c.loop-each.each-index in
    let item = c.each-item.result in
    let m = c.is_like-like.result in
    let count = c.loop-each.count in
    let before = c.loop-each.out.items in
    let within = c.loop-each-test.true in
    let here : get_or found place item ≡ item = search rules in
    let is : like (get_or found place item) ≡ m = ap like here ∙ sym c.is_like-like.ensures in
    let grown : c.put_if.new.out.items ≡ before ++ (if (m && nat_lt count listing.most) then text (get_or found place item) else []) =
    c.in_ok-put_if.ensures ∙ ap (λ (b : Bool). before ++ (if b then text item else [])) c.is_shown.ensures
    ∙ ap (λ (f : Found). before ++ (if (m && nat_lt count listing.most) then text f else [])) (sym here) in (
      member_count like found place item m count c.with_one-count.result within is c.loop-each.invariant.0 c.with_one-count.ensures,
      member_bound m place count c.with_one-count.result c.loop-each.invariant.1 c.with_one-count.ensures,
      member_step text like listing.most found place item m count c.args.out.now.items before c.put_if.new.out.items within is
          c.loop-each.invariant.0 c.loop-each.invariant.2 grown,
    )
