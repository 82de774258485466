use Rattle.std.proofs.Common.{rules}
use Rattle.indexmap.proofs.CallerLemmas.{filter-RetainsPairs}
use Rattle.gw_tables.specs.bdt_fdt.internal.Leases.{holds_at}
use Rattle.gw_tables.proofs.bdt_fdt.leases.take_ended.Goals as goal

pub returns-clause-leases : goal.returns-clause-leases
returns-clause-leases c =
    filter-RetainsPairs _ (holds_at c.args.now) _ (λ k v b w g call. search rules) _ _ c.retain.ensures.filtered
