use Rattle.std.proofs.Common.{sym, ap, ◌∙◌, length, arith, subst}
use Rattle.std.specs.List.{IsDistinct}
use Rattle.std.specs.Map.{keys_of}
use Rattle.gw_tables.specs.bdt_fdt.Registrations.{same}
use Rattle.gw_tables.proofs.bdt_fdt_lemmas.Rows.{counted, keyed}
use Rattle.gw_tables.proofs.bdt_fdt.fdt.Fdt.count.Goals as goal

pub returns-clause-count : goal.returns-clause-count
returns-clause-count c =
    c.len.ensures.len ∙ sym (counted c.self.inside.ticks c.self.inside.leases)
    ∙ ap (λ t. length t.rows) c.self.view_is

pub returns-clause-few : goal.returns-clause-few
returns-clause-few c = omega (arith, c.len.ensures.len, c.self.invariant.few)

pub returns-clause-once : goal.returns-clause-once
returns-clause-once c =
    subst (IsDistinct same)
    (sym (keyed c.self.inside.ticks c.self.inside.leases) ∙ ap (λ t. keys_of t.rows) c.self.view_is)
    c.len.ensures.once
