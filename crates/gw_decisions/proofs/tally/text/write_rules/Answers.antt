use Rattle.std.proofs.Common.{◌≡◌, ◌+◌, arith, get_or, length, rules}
use Rattle.gw_decisions.specs.tally.Tally.{line_in}
use Rattle.gw_decisions.proofs.tally_lemmas.Written.{written_all, written_none, written_one}
use Rattle.gw_decisions.proofs.tally.text.write_rules.Goals as goal

pub loop-place-init : goal.loop-place-init
loop-place-init g c = (written_none (line_in c.args.tally.now) (g.S.OctetSink.held c.args.sink.now), λ never. never)

pub loop-place-preserved : goal.loop-place-preserved
loop-place-preserved g c =
    let rule = c.index-rules-place.result in
    let text = line_in c.args.tally.now in
    let held = g.S.OctetSink.held in
    let kept = c.loop-place.invariant in
    let is : _ ≡ text (c.loop-place.place + 1) (get_or c.args.rules.now c.loop-place.place rule) = search rules in (
      written_one text (held c.args.sink.now) (held c.loop-place.sink) (held c.write_rule.new.sink) c.args.rules.now c.loop-place.place rule _
          c.loop-place-test.true is kept.0 c.in_ok-write_rule.ensures.ok,
      λ never. c.write_rule.ensures.lasts (kept.1 never),
    )

pub returns-clause-ok : goal.returns-clause-ok
returns-clause-ok g c =
    let all = c.args.rules.now in
    let text = line_in c.args.tally.now in
    let held = g.S.OctetSink.held in
    let ends : c.loop-place.place ≡ length all = omega (arith, c.loop-place.auto.place-end, c.loop-place-test.false) in
    written_all text (held c.args.sink.now) (held c.loop-place.sink) all c.loop-place.place ends c.loop-place.invariant.0
