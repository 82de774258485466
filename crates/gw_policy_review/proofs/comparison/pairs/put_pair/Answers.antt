use Rattle.std.proofs.Common.{◌++◌, ◌∷◌, []}
use Rattle.std.specs.Prelude.{codes}
use Rattle.gw_policy_review.specs.comparison.PairLines.{now_by_text, was_by_text}
use Rattle.gw_ask_sets.specs.AskText.{ask_fields_text}
use Rattle.gw_policy_review.proofs.comparison_lemmas.Appending.{two}
use Rattle.gw_policy_review.proofs.comparison.pairs.put_pair.Goals as goal

pub returns : goal.returns
returns c =
    let shown = c.args.shown.now in
    let last = c.put_slice.result in
    let end = c.put_slice.new.out.items in
    let ask = ask_fields_text shown.ask in
    let feed = 10 ∷ [] in
    two last c.args.out.now.items c.put_now_by.new.out.items end (now_by_text c.args.new.now shown.pair)
    (was_by_text c.args.old.now shown.pair ++ (codes ", for one:" ++ (ask ++ feed))) c.in_ok-put_now_by.ensures
    (two last c.put_now_by.new.out.items c.put_was_by.new.out.items end (was_by_text c.args.old.now shown.pair)
    (codes ", for one:" ++ (ask ++ feed)) c.in_ok-put_was_by.ensures
    (two last c.put_was_by.new.out.items c.extend_from_slice.new.self.items end (codes ", for one:") (ask ++ feed) c.in_ok-extend_from_slice.ensures.items
    (two last c.extend_from_slice.new.self.items c.put_ask.new.out.items end ask feed c.in_ok-put_ask.ensures
    c.put_slice.ensures.ok)))
