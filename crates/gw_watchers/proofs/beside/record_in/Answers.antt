use Rattle.std.proofs.Common.{◌≡◌, Some, subst, sym, true}
use Rattle.gw_watchers.specs.Watching.{wants_in}
use Rattle.gw_watchers.specs.internal.RecordedIn.{IsRecordedIn}
use Rattle.gw_watchers.proofs.WantedLemmas.{recorded_of_all}
use Rattle.gw_watchers.proofs.beside.record_in.Goals as goal

pub returns-in-Some : goal.returns-in-Some
returns-in-Some g c = λ all keeps seen wants.
    let b = c.in-Some.beside in
    let w = c.args.gateway.now in
    subst (λ before. IsRecordedIn g.C.RecordChoice.chosen g.C.RecordChoice.front g.C.RecordChoice.naming g.S.OctetSink.held w all before (Some c.record_asks.new.self))
    (sym c.in-Some.is)
    (recorded_of_all g.S.OctetSink.held (g.C.RecordChoice.chosen b.choice) (g.C.RecordChoice.front b.choice w.rules) (g.C.RecordChoice.naming b.choice w.rules)
    w.ticks keeps
    (λ a by is. wants a.verdict (subst (λ before. wants_in g.C.RecordChoice.wants before a.verdict ≡ true) (sym c.in-Some.is)
    (g.C.RecordChoice.wanted b.choice a by is)))
    all c.args.asked.now seen b c.record_asks.new.self c.record_asks.ensures)
