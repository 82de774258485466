use Rattle.std.proofs.Common.{get_or, nat_cmp, refl, nat_eq}
use Rattle.gw_configuration.proofs.Twice.{has_more, is_second, number_tie, same_number, same_numbers, still_sought}
use Rattle.gw_configuration.proofs.duplicates.second.Goals as goal

pub returns-then-not-branch : goal.returns-then-not-branch
returns-then-not-branch c =
    is_second (λ n. n) nat_eq same_numbers same_number nat_cmp number_tie c.loop-index.seen.keys c.args.numbers.now c.loop-index.index (get_or c.args.numbers.now c.loop-index.index 0) 0 c.in_ok-insert.field-0 c.loop-index-test.true refl c.loop-index.invariant.seen c.in_ok-insert.ensures.added c.if-not-branch.true c.loop-index.invariant.sought

pub loop-index-preserved : goal.loop-index-preserved
loop-index-preserved c = record {
  sought = still_sought (λ n. n) nat_eq same_numbers same_number nat_cmp number_tie c.loop-index.seen.keys c.args.numbers.now c.loop-index.index (get_or c.args.numbers.now c.loop-index.index 0) 0 c.in_ok-insert.field-0 c.loop-index-test.true refl c.loop-index.invariant.seen c.in_ok-insert.ensures.added c.if-not-branch.false c.loop-index.invariant.sought;
  seen = has_more (λ n. n) nat_eq same_numbers same_number nat_cmp number_tie c.loop-index.seen.keys c.insert.new.self.keys c.args.numbers.now c.loop-index.index (get_or c.args.numbers.now c.loop-index.index 0) 0 c.loop-index-test.true refl c.loop-index.invariant.seen c.in_ok-insert.ensures.keys;
}
