use Rattle.std.proofs.Common.{sym}
use Rattle.gw_frames.proofs.bvll_lemmas.EntryLists.{entries-back, entries-fit}
use Rattle.gw_frames.proofs.bvll.entries.Entries.as_octets.Goals as goal

pub returns-clause-encoded : goal.returns-clause-encoded
returns-clause-encoded g c =
    let entries = c.args.self.now in
    sym (entries-back g.E.Entry.encoding g.E.Entry.entry_of g.E.Entry.IsEntry g.met.E.Entry.reads entries.octets.now entries.octets_fit entries.whole)

pub returns-clause-fit : goal.returns-clause-fit
returns-clause-fit g c =
    let entries = c.args.self.now in
    entries-fit g.E.Entry.encoding g.E.Entry.entry_of g.E.Entry.IsEntry g.met.E.Entry.reads entries.octets.now entries.octets_fit entries.whole
