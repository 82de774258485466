use Rattle.gw_system.proofs.BegunLemmas.{begun}
use Rattle.gw_system.proofs.stamped_host.begun_in.Goals as goal

pub returns-in-Ok-clause-begun : goal.returns-in-Ok-clause-begun
returns-in-Ok-clause-begun g c =
    begun g.L.OctetSink.held c.args.log c.new.result c.new-noted.result c.note.new.self c.new.ensures.sink c.new.ensures.begins
    c.new-noted.ensures.sink c.new-noted.ensures.begins c.in-Ok.ensures.note c.in-Ok.ensures.keeps
