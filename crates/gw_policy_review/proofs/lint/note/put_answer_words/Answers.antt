use Rattle.std.proofs.Common.{codes, decimal}
use Rattle.gw_policy_review.proofs.lint_lemmas.Appending.{five}
use Rattle.gw_policy_review.proofs.lint.note.put_answer_words.Goals as goal

pub returns : goal.returns
returns c =
    five c.put_slice.result c.args.out.now.items c.extend_from_slice.new.self.items c.put_decimal.new.out.items
    c.extend_from_slice-2.new.self.items c.put_decimal-2.new.out.items c.put_slice.new.out.items
    (codes "the way back: requests from network ") (decimal c.args.here) (codes " to network ") (decimal c.args.there)
    (codes " may pass, their answers (services 1026 to 1031) may not") c.in_ok-extend_from_slice.ensures.items
    c.in_ok-put_decimal.ensures.ok c.in_ok-extend_from_slice-2.ensures.items c.in_ok-put_decimal-2.ensures.ok c.put_slice.ensures.ok
