use Rattle.std.proofs.Common.{sym, ap, subst, ◌∙◌}
use Rattle.gw_addr.specs.Entry.{fdt_entry, fdt_octets, IsFdtEntry}
use Rattle.gw_addr.proofs.Entries.{fdt-fits, fdt-back, fdt-again}
use Rattle.gw_addr.proofs.entry.FdtEntry.from_octets.Goals as goal

pub returns-clause-found : goal.returns-clause-found
returns-clause-found c =
    let is = sym c.entry_of.ensures in
    (subst IsFdtEntry is (fdt-fits c.args.octets.now c.told-octets c.fits-octets), sym (fdt-back c.args.octets.now c.told-octets c.fits-octets) ∙ ap fdt_octets is)

pub returns-clause-only : goal.returns-clause-only
returns-clause-only c = λ entry fits spelled. c.entry_of.ensures ∙ ap fdt_entry spelled ∙ fdt-again entry fits
