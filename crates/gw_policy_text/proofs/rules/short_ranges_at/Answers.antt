use Rattle.gw_policy_text.proofs.Few.{few_read}
use Rattle.gw_policy_text.proofs.rules.short_ranges_at.Goals as goal

pub returns-clause-few : goal.returns-clause-few
returns-clause-few c = few_read _ c.in_ok-items.items.now c.ranges-2.result c.in_ok-items.ensures.most c.ranges-2.ensures.ranges
