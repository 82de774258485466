use Rattle.std.proofs.Common.{◌/◌, length, sym, ◌∙◌}
use Rattle.std.proofs.lemmas.List.{length-map}
use Rattle.gw_frames.specs.bvll.Tens.{parts}
use Rattle.gw_frames.proofs.bvll_lemmas.EntryLists.{length-parts}
use Rattle.gw_frames.proofs.bvll.entries.Entries.len.Goals as goal

pub returns : goal.returns
returns g c =
    let octets = c.args.self.now.octets.now in
    let count = length octets / 10 in
    sym (length-map (parts count octets) g.E.Entry.entry_of ∙ length-parts count octets)
