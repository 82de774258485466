-- Entries of both kinds and their ten octets are one to one, by the laws of `gw_addr`.
use Rattle.gw_addr.specs.Entry.{bdt_octets, fdt_octets, bdt_entry, fdt_entry}
use Rattle.gw_addr.specs.Entry.{IsBdtEntry, IsFdtEntry}
use Rattle.gw_addr.proofs.Entries.{bdt-back, bdt-fits, bdt-again, length-bdt}
use Rattle.gw_addr.proofs.Entries.{fdt-back, fdt-fits, fdt-again, length-fdt}
use Rattle.gw_frames.specs.bvll.Tens.{ReadsTen}

pub reads_bdt : ReadsTen bdt_octets bdt_entry IsBdtEntry
reads_bdt = record { back = bdt-back; fits = bdt-fits; again = bdt-again; len = length-bdt }

pub reads_fdt : ReadsTen fdt_octets fdt_entry IsFdtEntry
reads_fdt = record { back = fdt-back; fits = fdt-fits; again = fdt-again; len = length-fdt }
