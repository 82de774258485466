use Rattle.std.proofs.Common.{map, take}
use Rattle.gw_core.specs.Asked.{asked_from}
use Rattle.gw_watchers.specs.Beside.{IsPut, start}
use Rattle.gw_watchers.specs.Records.{records}
use Rattle.gw_watchers.proofs.writing.Writing.put_all.Given as goal

abbrev pub invariant-loop-verdict : goal.invariant-loop-verdict
invariant-loop-verdict g l =
    let rules = g.C.RecordChoice.naming l.self.choice.now l.self.rules.now in
    let front = g.C.RecordChoice.front l.self.choice.now l.self.rules.now in
    let asked = map (asked_from l.self.whom.now) (take l.verdict-index l.verdicts) in
    IsPut (records (g.C.RecordChoice.chosen l.self.choice.now) front rules l.last l.self.tick asked) (start l.last)
    l.fn.text.items l.text.items l.put
