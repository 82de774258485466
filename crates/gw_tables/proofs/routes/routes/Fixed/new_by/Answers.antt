use Rattle.std.proofs.Common.{rules, ◌≡◌, ◌∙◌, sym, count_by}
use Rattle.gw_tables.specs.routes.internal.Fixed.{table_with}
use Rattle.gw_tables.specs.routes.Table.{Table, is_new}
use Rattle.gw_tables.proofs.routes_lemmas.Room.{count_keys}
use Rattle.gw_tables.proofs.routes.routes.Fixed.new_by.Goals as goal

pub returns : goal.returns
returns c =
    let t : Table = table_with c.args.self.now c.args.learned.now in
    let counted : c.count.result ≡ count_by (λ e. is_new t e.0) c.args.learnings.now = search rules in
    counted ∙ sym (count_keys (is_new t) c.args.learnings.now)
