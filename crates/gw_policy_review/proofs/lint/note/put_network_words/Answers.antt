use Rattle.std.proofs.Common.{codes, decimal}
use Rattle.gw_policy_review.proofs.lint_lemmas.Appending.{three}
use Rattle.gw_policy_review.proofs.lint.note.put_network_words.Goals as goal

pub returns : goal.returns
returns c =
    three c.put_slice.result c.args.out.now.items c.extend_from_slice.new.self.items c.put_decimal.new.out.items
    c.put_slice.new.out.items (codes "source_network: ") (decimal c.args.range.now.low)
    (codes " is of no port, no route and not the device's") c.in_ok-extend_from_slice.ensures.items c.in_ok-put_decimal.ensures.ok
    c.put_slice.ensures.ok
