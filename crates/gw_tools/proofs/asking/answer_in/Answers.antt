use Rattle.std.proofs.Common.{[]}
use Rattle.gw_notices.proofs.AppendLemmas.{appends_nothing}
use Rattle.gw_tools.proofs.CountLemmas.{strict_leaves}
use Rattle.gw_tools.proofs.asking.answer_in.Goals as goal

pub returns-then-strict-clause-answered : goal.returns-then-strict-clause-answered
returns-then-strict-clause-answered g c =
    let leaves = strict_leaves c.args.how.strict c.args.how.counts _ _ _ _ _ c.if-strict.true c.answer.ensures.output in (
      [],
      (c.placed_in-placed.result, c.placed_in-placed.ensures, leaves.0, leaves.1),
      λ never. appends_nothing (g.E.OctetSink.held c.args.streams.now.errors),
    )
