use Rattle.gw_rule_index.proofs.Rows.{low_ones, all_ones}
use Rattle.gw_rule_index.proofs.row.low_bits.Goals as goal

pub returns-then-count-lt-WORD_BITS : goal.returns-then-count-lt-WORD_BITS
returns-then-count-lt-WORD_BITS c b inside = low_ones c.args.count b c.if-count-lt-WORD_BITS.true inside

pub returns-else-count-lt-WORD_BITS : goal.returns-else-count-lt-WORD_BITS
returns-else-count-lt-WORD_BITS c b inside = all_ones c.args.count b c.if-count-lt-WORD_BITS.false inside
