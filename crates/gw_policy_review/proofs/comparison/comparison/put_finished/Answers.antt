use Rattle.std.specs.Prelude.{codes, ◌++◌, ◌∷◌, []}
use Rattle.gw_policy_review.specs.comparison.Comparison.{kinds_text}
use Rattle.gw_policy_review.proofs.comparison_lemmas.Appending.{two}
use Rattle.gw_policy_review.proofs.comparison.comparison.put_finished.Goals as goal

pub returns : goal.returns
returns c =
    two c.put_slice.result c.args.out.now.items c.put_kinds.new.out.items c.put_slice.new.out.items (kinds_text c.args.count)
    (codes ", and no other" ++ 10 ∷ []) c.in_ok-put_kinds.ensures c.put_slice.ensures.ok
