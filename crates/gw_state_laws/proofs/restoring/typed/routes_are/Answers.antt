use Rattle.std.proofs.Common.{◌≡◌, ℕ, List, [], ◌∷◌, ◌++◌, ◌+◌, ◌∙◌, suc, take, sym, ap, subst, arith}
use Rattle.std.proofs.Math.Seq.{take-suc}
use Rattle.std.specs.List.{AllByRecursion}
use Rattle.gw_tables.specs.routes.Table.{Routed}
use Rattle.gw_state_text.specs.Fit.{IsRoute}
use Rattle.gw_state_laws.proofs.restoring_lemmas.Once.{one_more}
use Rattle.gw_state_laws.proofs.restoring.typed.routes_are.Goals as goal

pub loop-learned-preserved : goal.loop-learned-preserved
loop-learned-preserved c =
    let routes = c.args.routes.now in
    let i = c.loop-learned.learned-index in
    let learned = c.learned-item.result in
    let next : i + 1 ≡ suc i = omega arith in
    let taken : take (i + 1) routes ≡ take i routes ++ learned ∷ [] =
    ap (λ (n : ℕ). take n routes) next ∙ take-suc routes i learned c.loop-learned-test.true
    ∙ ap (λ x. take i routes ++ x ∷ []) (sym c.learned-item.is) in
    subst (λ (l : Routed). AllByRecursion IsRoute l) (sym taken)
    (one_more IsRoute (take i routes) learned c.loop-learned.invariant c.learned_is.ensures)
