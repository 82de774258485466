use Rattle.std.proofs.Common.{map, take, refl, arith}
use Rattle.std.proofs.lemmas.List.{length-map, length-take}
use Rattle.gw_core.specs.Asked.{asked_from}
use Rattle.gw_watchers.specs.Beside.{start}
use Rattle.gw_watchers.proofs.RecordLemmas.{few_records, put_none, put_on_one}
use Rattle.gw_watchers.proofs.writing.Writing.put_all.Goals as goal

pub loop-verdict-init : goal.loop-verdict-init
loop-verdict-init g c = put_none c.args.text.now.items (start c.args.last)

pub put_next-put-requires : goal.put_next-put-requires
put_next-put-requires g c =
    let w = c.args.self.now in
    let i = c.loop-verdict.verdict-index in
    let verdicts = c.args.verdicts.now in
    let from = asked_from w.whom.now in
    let chosen = g.C.RecordChoice.chosen w.choice.now in
    let front = g.C.RecordChoice.front w.choice.now w.rules.now in
    let rules = g.C.RecordChoice.naming w.choice.now w.rules.now in
    let so_far = c.loop-verdict.invariant in
    omega (
      arith,
      so_far.count,
      few_records chosen front rules c.args.last w.tick (map from (take i verdicts)),
      length-map (take i verdicts) from,
      length-take i verdicts,
      c.loop-verdict-test.true,
    )

pub loop-verdict-preserved : goal.loop-verdict-preserved
loop-verdict-preserved g c =
    let w = c.args.self.now in
    let text = c.args.text.now.items in
    put_on_one (asked_from w.whom.now) (g.C.RecordChoice.chosen w.choice.now) (g.C.RecordChoice.front w.choice.now w.rules.now)
    (g.C.RecordChoice.naming w.choice.now w.rules.now) c.args.last w.tick c.args.verdicts.now c.loop-verdict.verdict-index _ (start c.args.last)
    c.loop-verdict.put c.put_next-put.result text c.loop-verdict.text.items c.put_next-put.new.text.items c.loop-verdict-test.true refl
    c.loop-verdict.invariant c.put_next-put.ensures
