use Rattle.gw_report.proofs.points_lemmas.Rows.{five_put}
use Rattle.gw_report.proofs.points.points.put_identity.Goals as goal

pub returns : goal.returns
returns c =
    five_put c.args.out.now.items c.put_next_number.new.out.items c.put_next.new.out.items c.put_next_number-2.new.out.items c.put_next_number-3.new.out.items c.put_next-2.new.out.items _ _ _ _ _
    c.in_ok-put_next_number.ensures c.in_ok-put_next.ensures c.in_ok-put_next_number-2.ensures c.in_ok-put_next_number-3.ensures c.in_ok-put_next-2.ensures
