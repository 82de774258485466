use Rattle.std.proofs.Common.{[], refl, subst, sym, ℕ, List, Bool}
use Rattle.std.specs.Io.Buffered.{writer_contents}
use Rattle.std.specs.Io.KnownBytes.{Appends}
use Rattle.gw_tools.specs.Asking.{ReportsUnread, asks_in}
use Rattle.gw_tools.specs.Objects.{LeavesJudgedIn}
use Rattle.gw_notices.proofs.AppendLemmas.{appends_nothing}
use Rattle.gw_tools.proofs.objects.judge_in.Goals as goal

pub returns-then-strict-clause-judged : goal.returns-then-strict-clause-judged
returns-then-strict-clause-judged g c =
    let contents = writer_contents g.W.Write.contents in
    let held = g.E.OctetSink.held c.args.streams.now.errors in
    let outcome = c.judge_strictly.result in
    subst (λ (strict : Bool). (said : List ℕ) × LeavesJudgedIn (g.F.ConfigFiles.Reads c.args.files.now) c.args.file.now
    (asks_in strict (g.R.OctetSource.left c.args.streams.now.input)) (contents c.args.streams.now.output) (contents c.judge_strictly.new.output) outcome
    × ReportsUnread strict outcome said × (g.E.OctetSink.NeverFails c.args.streams.now.errors → Appends held held said)) (sym c.if-strict.true) (
      [],
      c.judge_strictly.ensures.output,
      refl,
      λ never. appends_nothing held,
    )
