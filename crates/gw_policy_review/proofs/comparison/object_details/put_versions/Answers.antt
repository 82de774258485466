use Rattle.gw_policy_review.proofs.comparison_lemmas.Appending.{four}
use Rattle.gw_policy_review.proofs.comparison.object_details.put_versions.Goals as goal

pub returns : goal.returns
returns c =
    let revision = c.in_ok-put_number_change.ensures in
    let revision = rw (c.from-revision.ensures, c.from-other.ensures) at revision in
    let database = c.put_number_change-2.ensures in
    let database = rw (c.from-database.ensures, c.from-other-2.ensures) at database in
    four c.put_number_change-2.result c.args.out.now.items c.put_text_change.new.out.items c.put_text_change-2.new.out.items
    c.put_number_change.new.out.items c.put_number_change-2.new.out.items _ _ _ _ c.in_ok-put_text_change.ensures
    c.in_ok-put_text_change-2.ensures revision database
