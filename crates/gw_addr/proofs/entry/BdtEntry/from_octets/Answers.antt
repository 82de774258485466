use Rattle.std.proofs.Common.{sym, ap, subst, ◌∙◌}
use Rattle.gw_addr.specs.Entry.{bdt_entry, bdt_octets, IsBdtEntry}
use Rattle.gw_addr.proofs.Entries.{bdt-fits, bdt-back, bdt-again}
use Rattle.gw_addr.proofs.entry.BdtEntry.from_octets.Goals as goal

pub returns-clause-found : goal.returns-clause-found
returns-clause-found c =
    let is = sym c.entry_of.ensures in
    (subst IsBdtEntry is (bdt-fits c.args.octets.now c.told-octets c.fits-octets), sym (bdt-back c.args.octets.now c.told-octets c.fits-octets) ∙ ap bdt_octets is)

pub returns-clause-only : goal.returns-clause-only
returns-clause-only c = λ entry fits spelled. c.entry_of.ensures ∙ ap bdt_entry spelled ∙ bdt-again entry fits
