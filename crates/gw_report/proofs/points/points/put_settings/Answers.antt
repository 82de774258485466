use Rattle.std.proofs.Common.{[], ◌∷◌, codes}
use Rattle.gw_report.proofs.points_lemmas.Rows.{four_put}
use Rattle.gw_report.proofs.points.points.put_settings.Goals as goal

pub returns : goal.returns
returns c =
    four_put c.args.out.now.items c.put_row.new.out.items c.put_row-2.new.out.items c.put_row-3.new.out.items c.put_row-4.new.out.items
    (codes "VERSION_OF_REFERENCEFILE" ∷ codes "1" ∷ []) (codes "TIMESTAMP_OF_LAST_CHANGE" ∷ [] ∷ []) (codes "AUTHOR_OF_LAST_CHANGE" ∷ codes "bacgw" ∷ [])
    (codes "VERSION_OF_LAYOUT" ∷ codes "2.3" ∷ [])
    c.in_ok-put_row.ensures c.in_ok-put_row-2.ensures c.in_ok-put_row-3.ensures c.in_ok-put_row-4.ensures
