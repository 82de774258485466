use Rattle.std.proofs.Common.{sym, arith}
use Rattle.gw_addr.specs.Reading.{AreOctets}
use Rattle.gw_frames.proofs.bvll_lemmas.EntryLists.{entries-back, entries-whole, entries-only}
use Rattle.gw_frames.proofs.bvll.entries.Entries.from_octets.Goals as goal

pub returns-then-octets-ne0-clause-only : goal.returns-then-octets-ne0-clause-only
returns-then-octets-ne0-clause-only g c = λ entries fits encoded. c.if-octets-ne0.true (entries-whole g.E.Entry.encoding g.E.Entry.entry_of g.E.Entry.IsEntry g.met.E.Entry.reads c.args.octets.now entries fits encoded)

pub returns-clause-found : goal.returns-clause-found
returns-clause-found g c =
    let octets = c.args.octets.now in
    let fits : AreOctets octets = λ i. omega (arith, c.type_inv.octets i) in
    sym (entries-back g.E.Entry.encoding g.E.Entry.entry_of g.E.Entry.IsEntry g.met.E.Entry.reads octets fits c.if-octets-ne0.false)

pub returns-clause-only : goal.returns-clause-only
returns-clause-only g c = λ entries fits encoded. entries-only g.E.Entry.encoding g.E.Entry.entry_of g.E.Entry.IsEntry g.met.E.Entry.reads c.args.octets.now entries fits encoded
