use Rattle.std.proofs.Common.{◌≡◌, ◌∙◌, ap, sym}
use Rattle.gw_policy_text.specs.internal.Listing.{listing_view, with_rule}
use Rattle.gw_policy_text.proofs.Listed.{onward, written_added}
use Rattle.gw_policy_text.proofs.listing.Listing.add.Goals as goal

pub returns-clause-added : goal.returns-clause-added
returns-clause-added c =
    let written = c.args.written in
    let old = listing_view c.args.self.now in
    let one : listing_view c.put.new.self ≡ with_rule c.args.table written.note written.audit written.rule old =
    c.in_ok-put.ensures.added
    ∙ ap (λ rule. with_rule c.args.table c.into_parts-rule.result.1 c.into_parts-rule.result.2 rule old) c.into_parts-rule.ensures.rule
    ∙ ap (λ note. with_rule c.args.table note c.into_parts-rule.result.2 written.rule old) c.into_parts-rule.ensures.note
    ∙ ap (λ audit. with_rule c.args.table written.note audit written.rule old) c.into_parts-rule.ensures.audit in
    onward c.put_other-2.result
    (λ three. written_added c.args.table written old _ _ _ c.in_ok-way.way c.in_ok-back.back c.if-not-written.false c.in_ok-way.ensures.way c.in_ok-back.ensures.back one c.in_ok-put_other.ensures.added three)
    c.put_other-2.ensures.added
