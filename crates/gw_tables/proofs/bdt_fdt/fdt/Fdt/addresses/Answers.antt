use Rattle.std.proofs.Common.{sym, ap, ◌∙◌}
use Rattle.std.specs.Map.{keys_of}
use Rattle.gw_tables.specs.bdt_fdt.Registrations.{Registrations}
use Rattle.gw_tables.proofs.bdt_fdt_lemmas.Rows.{keyed}
use Rattle.gw_tables.proofs.bdt_fdt.fdt.Fdt.addresses.Goals as goal

pub returns : goal.returns
returns c =
    c.keys.ensures.rest ∙ ap keys_of c.by_address.ensures
    ∙ sym (keyed c.self.inside.ticks c.self.inside.leases)
    ∙ ap (λ (t : Registrations). keys_of t.rows) c.self.view_is
