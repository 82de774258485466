-- An acknowledgement of a table's entries is short.
use Rattle.std.proofs.Common.{◌≡◌, ap, refl, ℕ, ◌<◌, ◌≤◌, false, nat_lt, List, [], ◌++◌, length, arith}
use Rattle.std.specs.List.{flat_map, AllByRecursion}
use Rattle.std.proofs.lemmas.List.{length-append}
use Rattle.std.proofs.lemmas.Bool.{ltb-false}
use Rattle.gw_addr.specs.Entry.{bdt_entry, bdt_octets, fdt_entry, fdt_octets, IsBdtEntry, IsFdtEntry}
use Rattle.gw_addr.specs.declared.entry.BdtEntry.{BdtEntry}
use Rattle.gw_addr.specs.declared.entry.FdtEntry.{FdtEntry}
use Rattle.gw_frames.specs.bvll.Bvll.{encoding, read_bdt_ack, read_fdt_ack}
use Rattle.gw_frames.specs.bvll.internal.Reads.{reads_bdt, reads_fdt}
use Rattle.gw_frames.proofs.bvll_lemmas.EntryLists.{length-encodings}

empty_bdt : (none : List BdtEntry) → none ≡ [] → length (encoding (read_bdt_ack none)) ≡ 4
empty_bdt none e = rw e refl

empty_fdt : (none : List FdtEntry) → none ≡ [] → length (encoding (read_fdt_ack none)) ≡ 4
empty_fdt none e = rw e refl

pub bdt_fits : (front octets : List ℕ) (none entries : List BdtEntry) → none ≡ [] → AllByRecursion IsBdtEntry entries
    → nat_lt 64 (length entries) ≡ false
    → front ≡ [] ++ encoding (read_bdt_ack none) → octets ≡ front ++ flat_map bdt_octets entries → length octets < 65536
bdt_fits front octets none entries e fit few begins ends =
    omega (
      arith,
      ltb-false 64 (length entries) few,
      ap length ends,
      ap length begins,
      length-append front (flat_map bdt_octets entries),
      empty_bdt none e,
      length-encodings bdt_octets bdt_entry IsBdtEntry reads_bdt entries fit,
    )

pub fdt_fits : (front octets : List ℕ) (none entries : List FdtEntry) → none ≡ [] → AllByRecursion IsFdtEntry entries → length entries ≤ 128
    → front ≡ [] ++ encoding (read_fdt_ack none) → octets ≡ front ++ flat_map fdt_octets entries → length octets < 65536
fdt_fits front octets none entries e fit few begins ends =
    omega (
      arith,
      few,
      ap length ends,
      ap length begins,
      length-append front (flat_map fdt_octets entries),
      empty_fdt none e,
      length-encodings fdt_octets fdt_entry IsFdtEntry reads_fdt entries fit,
    )
