use Rattle.std.proofs.Common.{◌∙◌, ◌+◌, ap, subst, sym}
use Rattle.gw_ask_sets.specs.regions.Comparing.{unlike}
use Rattle.gw_ask_sets.specs.regions.Pairs.{AreTried, all_cells, findings}
use Rattle.gw_ask_sets.specs.declared.regions.pairs.Pairs.{Pairs}
use Rattle.gw_ask_sets.proofs.regions_lemmas.PairLaw.{all_more, all_same}
use Rattle.gw_ask_sets.proofs.regions.pairs.try_rows.Goals as goal
use Rattle.gw_ask_sets.proofs.regions.pairs.try_rows.Goals.{then-is_unlike+in_ok-try_row, else-is_unlike}

pub loop-place-preserved : goal.loop-place-preserved
loop-place-preserved c =
    let policies = c.args.policies.now in
    let shapes = policies.shapes.now in
    let old = policies.old.now in
    let new = policies.new.now in
    let says = c.args.says in
    let place = c.loop-place.place in
    let start = findings c.args.pairs.now.found.items c.args.pairs.now.given_up.items c.args.pairs.now.steps in
    let judged = c.is_unlike.ensures ∙ ap (λ b. unlike b says) c.says_at.ensures in
    elim c.if-is_unlike.branch [
      | then-is_unlike+in_ok-try_row w ↦
          subst (λ (p : Pairs). AreTried shapes old new (all_cells old new says (place + 1)) start (findings p.found.items p.given_up.items p.steps)) (sym w.pairs-is)
          (all_more shapes old new says place start _ _ c.loop-place.invariant (sym judged ∙ w.if-is_unlike.true) w.in_ok-try_row.ensures)
      | else-is_unlike w ↦
          subst (λ (p : Pairs). AreTried shapes old new (all_cells old new says (place + 1)) start (findings p.found.items p.given_up.items p.steps)) (sym w.pairs-is)
          (all_same shapes old new says place start _ c.loop-place.invariant (sym judged ∙ w.if-is_unlike.false))
    ]
