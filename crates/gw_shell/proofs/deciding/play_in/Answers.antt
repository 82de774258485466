use Rattle.std.proofs.Common.{[]}
use Rattle.gw_notices.proofs.AppendLemmas.{appends_nothing}
use Rattle.gw_shell.proofs.DecidingLemmas.{uncounted_reports}
use Rattle.gw_shell.proofs.deciding.play_in.Goals as goal

pub returns-else-counts-clause-played : goal.returns-else-counts-clause-played
returns-else-counts-clause-played g c =
    let read = c.configuration-config in (
      [],
      (
        read.result,
        read.ensures,
        c.play.ensures.output,
        uncounted_reports c.args.how.counts (g.R.OctetSource.left c.args.streams.now.input) read.result c.play.result c.if-counts.false,
      ),
      λ never. appends_nothing (g.E.OctetSink.held c.args.streams.now.errors),
    )
