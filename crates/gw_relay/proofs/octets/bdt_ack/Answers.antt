use Rattle.std.proofs.Common.{ap, ◌∙◌, List, ℕ, ◌++◌, false, ◌≡◌}
use Rattle.gw_tables.specs.bdt_fdt.Peers.{are_too_many}
use Rattle.gw_addr.specs.Entry.{bdt_entry}
use Rattle.gw_frames.specs.bvll.Bvll.{encoding, read_bdt_ack}
use Rattle.gw_frames.specs.bvll.Entries.{lent}
use Rattle.gw_relay.proofs.Lengths.{bdt_fits}
use Rattle.gw_relay.proofs.octets.bdt_ack.Goals as goal

pub set_length-requires-clause-most : goal.set_length-requires-clause-most
set_length-requires-clause-most c =
    let few : are_too_many c.entries-entries.result.now ≡ false = ap are_too_many c.entries-entries.ensures.entries
    ∙ c.entries-entries.ensures.few in
    bdt_fits c.put_empty.new.octets.items c.as_mut_slice.result.now _ c.entries-entries.result.now c.no_bdt_entries.ensures
    c.in_ok-put_entries.ensures.fit few
    (c.in_ok-put_empty.ensures ∙ ap (λ (t : List ℕ). t ++ encoding (read_bdt_ack (lent bdt_entry c.no_bdt_entries.result)))
    c.in_ok-octets.ensures.empty) (c.as_mut_slice.ensures.value ∙ c.in_ok-put_entries.ensures.ok)
