use Rattle.std.proofs.Common.{◌+◌, codes, decimal}
use Rattle.gw_policy_review.proofs.lint_lemmas.Appending.{three}
use Rattle.gw_policy_review.proofs.lint.trust.put_port_words.Goals as goal

pub returns : goal.returns
returns c =
    three c.put_slice-2.result c.args.out.now.items c.put_slice.new.out.items c.put_decimal.new.out.items
    c.put_slice-2.new.out.items (codes "source_network: port ") (decimal (c.args.place + 1))
    (codes " has no stations, so whoever reaches it is taken for a station of its network") c.in_ok-put_slice.ensures.ok
    c.in_ok-put_decimal.ensures.ok c.put_slice-2.ensures.ok
