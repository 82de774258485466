use Rattle.std.proofs.Common.{rules, arith, IsOk, subst, sym, true≢false}
use Rattle.gw_tables.proofs.routes_lemmas.Learning.{after_each}
use Rattle.gw_tables.proofs.routes.routes.Routes.learn_all.Goals as goal

pub returns-clause-stands : goal.returns-clause-stands
returns-clause-stands c = λ direct configured h s. after_each c.args.nets.now _ _ direct configured h _ (search rules) s

pub returns-in_err-reserve-clause-no_growth : goal.returns-in_err-reserve-clause-no_growth
returns-in_err-reserve-clause-no_growth c = λ none.
    let ok : IsOk c.reserve.result = c.reserve.ensures.succeeds (omega (arith, none, c.growth-needed.ensures)) in
    absurd (true≢false (sym (subst IsOk c.in_err-reserve.was ok)))
