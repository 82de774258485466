use Rattle.std.proofs.Common.{arith}
use Rattle.gw_rule_index.proofs.Limits.{each_named, ten_named}
use Rattle.gw_rule_index.proofs.laws.named_limits.Goals as goal

pub returns-clause-each_named : goal.returns-clause-each_named
returns-clause-each_named c rules ask = each_named rules ask

pub returns-clause-comparisons : goal.returns-clause-comparisons
returns-clause-comparisons c rules ask sender station =
    omega (arith, each_named rules ask, ten_named rules sender station)

pub returns-clause-ands : goal.returns-clause-ands
returns-clause-ands c rules sender station = ten_named rules sender station
