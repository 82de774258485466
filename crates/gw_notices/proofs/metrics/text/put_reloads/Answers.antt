use Rattle.std.proofs.Common.{[], ◌∷◌, ◌++◌, ℕ, List, codes}
use Rattle.std.proofs.lemmas.Result.{on_ok_weaker}
use Rattle.gw_notices.proofs.metrics_lemmas.Samples.{one_more}
use Rattle.gw_notices.specs.metrics.Text.{Count, Help, KindOf, Line, labelled}
use Rattle.gw_notices.specs.declared.metrics.family.Family.TheVariants as family
use Rattle.gw_notices.specs.declared.metrics.family.SampleLabel.TheVariants as label
use Rattle.gw_notices.proofs.metrics.text.put_reloads.Goals as goal

pub returns : goal.returns
returns c =
    let at : List ℕ → ℕ → Line = λ outcome n. Count family.Reloads (labelled label.Outcome outcome n) in
    let head : List Line = Help family.Reloads ∷ KindOf family.Reloads ∷ [] in
    let first = at (codes "taken_over") c.args.reloads.taken_over in
    let before = c.args.out.now.items in
    on_ok_weaker c.put_counted-2.result
    (one_more before c.put_counted.new.out.items c.put_counted-2.new.out.items
    (head ++ first ∷ []) (at (codes "refused") c.args.reloads.refused)
    (one_more before c.put_head.new.out.items c.put_counted.new.out.items head first c.in_ok-put_head.ensures c.in_ok-put_counted.ensures))
    c.put_counted-2.ensures
