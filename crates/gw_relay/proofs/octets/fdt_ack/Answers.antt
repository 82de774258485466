use Rattle.std.proofs.Common.{ap, ◌∙◌, length, List, ℕ, ◌++◌, ◌≤◌, arith}
use Rattle.std.proofs.lemmas.List.{length-map}
use Rattle.gw_tables.specs.bdt_fdt.Registrations.{shown}
use Rattle.gw_addr.specs.Entry.{fdt_entry}
use Rattle.gw_frames.specs.bvll.Bvll.{encoding, read_fdt_ack}
use Rattle.gw_frames.specs.bvll.Entries.{lent}
use Rattle.gw_relay.proofs.Lengths.{fdt_fits}
use Rattle.gw_relay.proofs.octets.fdt_ack.Goals as goal

pub set_length-requires-clause-most : goal.set_length-requires-clause-most
set_length-requires-clause-most c =
    let few : length c.deref.result.now ≤ 128 =
    omega (
      arith,
      ap length c.deref.ensures.value,
      ap length c.in_ok-rows.ensures.rows,
      length-map c.args.fdt.now.rows shown,
      c.count.ensures.count,
      c.count.ensures.few,
    ) in
    fdt_fits c.put_empty.new.octets.items c.as_mut_slice.result.now _ c.deref.result.now c.no_fdt_entries.ensures
    c.in_ok-put_entries.ensures.fit few
    (c.in_ok-put_empty.ensures ∙ ap (λ (t : List ℕ). t ++ encoding (read_fdt_ack (lent fdt_entry c.no_fdt_entries.result)))
    c.in_ok-octets.ensures.empty) (c.as_mut_slice.ensures.value ∙ c.in_ok-put_entries.ensures.ok)
