use Rattle.gw_service.proofs.StartLemmas.{second_line}
use Rattle.gw_service.proofs.start.saved_of_text.Goals as goal

pub returns-then-are_at_end : goal.returns-then-are_at_end
returns-then-are_at_end c = second_line c.args.text.now c.in-Ok.saved c.in-Ok.ensures.found
