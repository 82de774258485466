use Rattle.std.proofs.Common.{rules, ◌≡◌, [], ℕ, List, Option, Some, None, refl, subst, sym}
use Rattle.std.specs.Global.{Vec}
use Rattle.std.specs.Io.Buffered.{writer_contents}
use Rattle.std.specs.Prelude.{string_bytes}
use Rattle.gw_tool_line.specs.declared.options.Shown.{Shown}
use Rattle.gw_ending.specs.reading.Files.{result_map}
use Rattle.gw_tools.specs.Placed.{IsPlacedIn}
use Rattle.gw_tools.specs.Reloading.{SaysReload, SaysReloadOf, ShowsReload, answers_by}
use Rattle.gw_tools.specs.Saying.{SaysOf}
use Rattle.gw_notices.proofs.AppendLemmas.{appends_nothing}
use Rattle.gw_tools.proofs.reloading.reload_in.Goals as goal

pub returns-in-Some-clause-reloaded : goal.returns-in-Some-clause-reloaded
returns-in-Some-clause-reloaded g c =
    let reads = g.F.ConfigFiles.Reads c.args.files.now in
    let answers = answers_by (g.M.Machine.Asks c.args.machine.now) g.M.Machine.Answers in
    let contents = writer_contents g.W.Write.contents in
    let text = result_map (λ (octets : Vec ℕ). octets.items) c.read-text.result in
    let request = c.args.asking.now.request.now in
    let held = contents c.args.streams.now.output in
    let mid = contents c.reload_shown.new.streams.output in
    let old = c.placed_in-old.result in
    let new = c.placed_of-new.result in
    let said = c.reload_shown.result in
    let shown = c.reload_shown.ensures.shown in
    let name : c.deref.result.now ≡ string_bytes c.in-Some.shown.old = search rules in
    let is : c.args.asking.now.was.now ≡ Some c.in-Some.shown = c.in-Some.is in
    let shows = subst (λ (t : List ℕ). ShowsReload answers request t c.in-Some.shown.most held mid shown.0 old new said) c.octets_or.ensures shown.1 in (
      shown.0,
      (
        text,
        c.read-text.ensures,
        subst (λ (was : Option Shown). SaysReloadOf reads answers request text was held mid shown.0 said) (sym is)
            (old, subst (λ (name : List ℕ). IsPlacedIn reads name old) name c.placed_in-old.ensures, new, c.placed_of-new.ensures, shows),
      ),
      shown.2,
    )

pub returns-clause-reloaded : goal.returns-clause-reloaded
returns-clause-reloaded g c =
    let reads = g.F.ConfigFiles.Reads c.args.files.now in
    let answers = answers_by (g.M.Machine.Asks c.args.machine.now) g.M.Machine.Answers in
    let text = result_map (λ (octets : Vec ℕ). octets.items) c.read-text.result in
    let request = c.args.asking.now.request.now in
    let held = writer_contents g.W.Write.contents c.args.streams.now.output in
    let config = c.configuration_of.result in
    let said = c.reload.result in
    let is : c.args.asking.now.was.now ≡ None = c.in-None.is in
    let says = subst (λ (t : List ℕ). SaysOf (SaysReload answers request t) config said) c.octets_or.ensures c.reload.ensures in (
      [],
      (
        text,
        c.read-text.ensures,
        subst (λ (was : Option Shown). SaysReloadOf reads answers request text was held held [] said) (sym is)
            (config, c.configuration_of.ensures, says, refl, refl),
      ),
      λ sure. appends_nothing (g.E.OctetSink.held c.args.streams.now.errors),
    )
