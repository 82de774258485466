use Rattle.std.proofs.Common.{◌≡◌, true, false, sym}
use Rattle.gw_ask_sets.specs.AskText.{address_of}
use Rattle.gw_policy_review.specs.warnings.Warnings.{is_cut}
use Rattle.gw_policy_review.proofs.warnings_lemmas.Lines.{nothing_put}
use Rattle.gw_policy_review.proofs.warnings.rule_warnings.put_cut.Goals as goal

pub returns-else-is_cut : goal.returns-else-is_cut
returns-else-is_cut c =
    let whole : is_cut (address_of c.args.range.now.low) (address_of c.args.range.now.high) ≡ false =
    sym (rw (c.address_of-low.ensures, c.address_of-high.ensures) at c.if-is_cut.ensures) in
    rw whole nothing_put

pub returns-then-is_cut : goal.returns-then-is_cut
returns-then-is_cut c =
    let whole : is_cut (address_of c.args.range.now.low) (address_of c.args.range.now.high) ≡ true =
    sym (rw (c.address_of-low.ensures, c.address_of-high.ensures) at c.if-is_cut.ensures) in
    rw whole (rw (c.address_of-low.ensures, c.address_of-high.ensures) at c.put_cut_line.ensures)
