use Rattle.gw_report.proofs.points_lemmas.Rows.{five_put}
use Rattle.gw_report.proofs.points.points.put_value.Goals as goal

pub returns : goal.returns
returns c =
    five_put c.args.out.now.items c.put_next.new.out.items c.put_next-2.new.out.items c.put_next-3.new.out.items c.put_settable.new.out.items c.put_next-4.new.out.items _ _ _ _ _
    c.in_ok-put_next.ensures c.in_ok-put_next-2.ensures c.in_ok-put_next-3.ensures c.in_ok-put_settable.ensures c.in_ok-put_next-4.ensures
