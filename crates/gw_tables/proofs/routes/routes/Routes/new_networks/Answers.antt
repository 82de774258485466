use Rattle.std.proofs.Common.{◌∙◌, sym, ap, [], drop}
use Rattle.std.proofs.lemmas.List.{drop_all}
use Rattle.gw_tables.specs.routes.internal.News.{found_in}
use Rattle.gw_tables.proofs.routes_lemmas.News.{new_are_found}
use Rattle.gw_tables.proofs.routes.routes.Routes.new_networks.Goals as goal

pub returns : goal.returns
returns c = λ route.
    let none = drop_all c.loop-net.net-index c.args.nets.now c.loop-net-test.false in
    sym (ap (found_in c.args.self.now c.loop-net.found.items) none) ∙ c.loop-net.invariant
    ∙ sym (new_are_found c.args.self.now route c.args.nets.now)
