use Rattle.std.proofs.Common.{◌≡◌, ◌∙◌, ap, [], length, nat_eq, arith}
use Rattle.indexmap.specs.IndexMap.{insert_all}
use Rattle.gw_tables.specs.routes.Table.{table_of}
use Rattle.gw_tables.specs.routes.History.{learned_after, networks_learned}
use Rattle.gw_tables.proofs.routes_lemmas.Order.{in_turn}
use Rattle.gw_tables.proofs.routes.routes.Routes.new.Goals as goal

pub invariant_of-result : goal.invariant_of-result
invariant_of-result c =
    let rows : c.in_ok-configured.configured.entries ≡ c.args.configured.items =
    c.in_ok-configured.ensures.entries ∙ ap (insert_all nat_eq []) c.deref.ensures.value ∙ in_turn c.args.direct.items c.args.configured.items c.requires.distinct in
    omega (arith, ap length rows, ap length c.new-learned.ensures.empty, c.requires.few)

pub returns-clause-made : goal.returns-clause-made
unfolding learned_after networks_learned
returns-clause-made c = λ j.
    table_of c.args.direct.items
    ((c.in_ok-configured.ensures.entries ∙ ap (insert_all nat_eq []) c.deref.ensures.value ∙ in_turn c.args.direct.items c.args.configured.items c.requires.distinct) j)
    (c.new-learned.ensures.empty j)
