use Rattle.std.proofs.Common.{sym, ap, ◌∙◌}
use Rattle.gw_tables.specs.bdt_fdt.Registrations.{contains}
use Rattle.gw_tables.proofs.bdt_fdt_lemmas.Rows.{contained}
use Rattle.gw_tables.proofs.bdt_fdt.fdt.Fdt.contains.Goals as goal

pub returns : goal.returns
returns c =
    c.contains.ensures ∙ sym (contained c.self.inside.ticks c.self.inside.leases c.args.address)
    ∙ ap (λ t. contains t c.args.address) c.self.view_is
