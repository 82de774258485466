use Rattle.std.proofs.Common.{rules, ◌<◌}
use Rattle.gw_policy_drafts.proofs.BeginningLaw.{few_addresses}
use Rattle.gw_policy_drafts.proofs.migration.subnets.size_of.Goals as goal

pub returns-clause-most : goal.returns-clause-most
returns-clause-most c =
    let small : c.saturating_sub.result < 33 = search rules in
    few_addresses c.saturating_sub.result small
