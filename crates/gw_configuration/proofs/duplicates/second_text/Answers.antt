use Rattle.std.proofs.Common.{get_or, map, [], nat_eq, arith}
use Rattle.std.specs.Cmp.Lexicographic.{pointwise}
use Rattle.gw_configuration.proofs.Twice.{has_more, is_second, same_text_is, same_texts, still_sought, text_at, text_cmp, text_tie, texts_length}
use Rattle.gw_configuration.proofs.duplicates.second_text.Goals as goal

pub returns-then-not-branch : goal.returns-then-not-branch
returns-then-not-branch c =
    is_second (λ t. t.now) (pointwise nat_eq) same_texts same_text_is text_cmp text_tie c.loop-index.seen.keys (map (λ t. t.now) c.args.texts.now) c.loop-index.index (get_or c.args.texts.now c.loop-index.index (record { ref_ptr = (0, 0); now = [] })) [] c.in_ok-insert.field-0 (omega (arith, texts_length c.args.texts.now, c.loop-index-test.true)) (text_at c.args.texts.now c.loop-index.index (record { ref_ptr = (0, 0); now = [] })) c.loop-index.invariant.seen c.in_ok-insert.ensures.added c.if-not-branch.true c.loop-index.invariant.sought

pub loop-index-preserved : goal.loop-index-preserved
loop-index-preserved c = record {
  sought = still_sought (λ t. t.now) (pointwise nat_eq) same_texts same_text_is text_cmp text_tie c.loop-index.seen.keys (map (λ t. t.now) c.args.texts.now) c.loop-index.index (get_or c.args.texts.now c.loop-index.index (record { ref_ptr = (0, 0); now = [] })) [] c.in_ok-insert.field-0 (omega (arith, texts_length c.args.texts.now, c.loop-index-test.true)) (text_at c.args.texts.now c.loop-index.index (record { ref_ptr = (0, 0); now = [] })) c.loop-index.invariant.seen c.in_ok-insert.ensures.added c.if-not-branch.false c.loop-index.invariant.sought;
  seen = has_more (λ t. t.now) (pointwise nat_eq) same_texts same_text_is text_cmp text_tie c.loop-index.seen.keys c.insert.new.self.keys (map (λ t. t.now) c.args.texts.now) c.loop-index.index (get_or c.args.texts.now c.loop-index.index (record { ref_ptr = (0, 0); now = [] })) [] (omega (arith, texts_length c.args.texts.now, c.loop-index-test.true)) (text_at c.args.texts.now c.loop-index.index (record { ref_ptr = (0, 0); now = [] })) c.loop-index.invariant.seen c.in_ok-insert.ensures.keys;
}
