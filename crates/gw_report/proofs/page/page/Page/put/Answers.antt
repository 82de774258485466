use Rattle.gw_report.proofs.page_lemmas.Pages.{kept}
use Rattle.gw_report.proofs.page.page.Page.put.Goals as goal

pub invariant_of-self : goal.invariant_of-self
invariant_of-self c =
    kept c.put_whole.result c.args.octets.now c.self.inside.octets.items c.put_whole.new.out.items c.self.invariant c.requires
    c.put_whole.ensures.ok c.put_whole.ensures.err
