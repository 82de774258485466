use Rattle.std.proofs.Common.{◌∙◌, nat_eq, sym, ap, length}
use Rattle.indexmap.proofs.MapLemmas.{Found-position, insert_entry-first}
use Rattle.gw_tables.proofs.routes_lemmas.Room.{length-insert_entry}
use Rattle.gw_tables.proofs.routes.routes.put.Goals as goal

pub returns-in-Some-clause-entries : goal.returns-in-Some-clause-entries
returns-in-Some-clause-entries c =
    let es = c.args.routes.now.entries in
    sym (insert_entry-first nat_eq c.args.net c.args.route es c.in-Some.place
    (Found-position (nat_eq c.args.net) es c.in-Some.place (sym (c.in-Some.ensures.index))).first)

pub returns-in-Some-clause-len : goal.returns-in-Some-clause-len
returns-in-Some-clause-len c =
    ap length (returns-in-Some-clause-entries c) ∙ length-insert_entry c.args.routes.now.entries c.args.net c.args.route
