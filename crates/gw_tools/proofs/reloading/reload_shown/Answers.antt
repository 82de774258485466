use Rattle.std.proofs.Common.{rules, ◌≡◌, [], Option, Some, None, Result, Ok, Err, false, ap, refl, subst, sym}
use Rattle.std.specs.Io.Buffered.{writer_contents}
use Rattle.gw_ending.specs.declared.fault.Fault.{Fault}
use Rattle.gw_ending.specs.declared.reading.printing.Said.{Said}
use Rattle.gw_notices.proofs.AppendLemmas.{appends_nothing}
use Rattle.gw_script.proofs.Passing.{passes_on}
use Rattle.gw_tools.specs.Comparing.{AreProgress, IsCompared, SaysCompared}
use Rattle.gw_tools.specs.Reloading.{IsHeldTo, ShowsChange, ShowsReload, answers_by}
use Rattle.gw_tools.specs.declared.comparing.Layout.TheVariants as layout
use Rattle.gw_tools.specs.declared.comparing.Limits.{Limits}
use Rattle.gw_tools.specs.declared.placed.Placed.{Placed}
use Rattle.gw_tools.proofs.reloading.reload_shown.Goals as goal

pub returns-in-Ok-clause-shown : goal.returns-in-Ok-clause-shown
returns-in-Ok-clause-shown g c =
    let answers = answers_by (g.M.Machine.Asks c.args.asked.now.machine.now) g.M.Machine.Answers in
    let request = c.args.asked.now.request.now in
    let text = c.args.asked.now.text.now in
    let most = c.args.most in
    let limits : Limits = record { most = most; layout = layout.Text false } in
    let held = writer_contents g.W.Write.contents c.args.streams.now.output in
    let mid = writer_contents g.W.Write.contents c.print_said-shown.new.output in
    let old = c.in-Ok.old in
    let new = c.in_ok-new.new in
    let compared = c.say_compared-compared in
    let said = c.ask_after.result in
    let done = compared.ensures.said in
    let first : c.args.both.old ≡ Ok old = c.in-Ok.is in
    let second : c.args.both.new ≡ Ok new = search rules in
    let sound : IsHeldTo new.config (Ok None) =
    subst (λ (refused : Option Said). IsHeldTo new.config (Ok refused)) c.in_default.is c.in_ok-refused.ensures in
    let is : SaysCompared (IsCompared limits old new) compared.result =
    subst (λ (p : Placed). SaysCompared (IsCompared limits p new) compared.result) c.in-Ok.old-is compared.ensures.compared in
    let told : AreProgress old.config new.config done.0 =
    subst (λ (p : Placed). AreProgress p.config new.config done.0) c.in-Ok.old-is done.1 in
    let shows : ShowsChange answers request text most held mid done.0 old new said =
    (compared.result, is, c.print_said-shown.result, c.print_said-shown.ensures.output, c.ask_after.ensures, told) in (
      done.0,
      subst (λ (r : Result Placed Fault). ShowsReload answers request text most held mid done.0 r c.args.both.new said) (sym first)
          (subst (λ (r : Result Placed Fault). ShowsReload answers request text most held mid done.0 (Ok old) r said) (sym second) (Ok None, sound, shows)),
      done.2,
    )

pub returns-in_err-new-clause-shown : goal.returns-in_err-new-clause-shown
returns-in_err-new-clause-shown g c =
    let answers = answers_by (g.M.Machine.Asks c.args.asked.now.machine.now) g.M.Machine.Answers in
    let request = c.args.asked.now.request.now in
    let text = c.args.asked.now.text.now in
    let most = c.args.most in
    let held = writer_contents g.W.Write.contents c.args.streams.now.output in
    let shows = λ (old : Result Placed Fault). λ (new : Result Placed Fault). λ (said : Result Said Fault).
    ShowsReload answers request text most held held [] old new said in
    let f = c.in_err-new.field-0.0 in
    let second : c.args.both.new ≡ Err f = search rules in (
      [],
      passes_on (shows c.args.both.old c.args.both.new) f c.from_residual.result c.from_residual.ensures
          (subst (λ (r : Result Placed Fault). shows c.args.both.old r (Err f)) (sym second) (refl, refl, refl)),
      λ never. appends_nothing (g.E.OctetSink.held c.args.streams.now.errors),
    )

pub returns-in_err-refused-clause-shown : goal.returns-in_err-refused-clause-shown
returns-in_err-refused-clause-shown g c =
    let answers = answers_by (g.M.Machine.Asks c.args.asked.now.machine.now) g.M.Machine.Answers in
    let request = c.args.asked.now.request.now in
    let text = c.args.asked.now.text.now in
    let most = c.args.most in
    let held = writer_contents g.W.Write.contents c.args.streams.now.output in
    let shows = λ (old : Result Placed Fault). λ (new : Result Placed Fault). λ (said : Result Said Fault).
    ShowsReload answers request text most held held [] old new said in
    let f = c.in_err-refused.field-0.0 in
    let second : c.args.both.new ≡ Ok c.in_ok-new.new = search rules in (
      [],
      passes_on (shows c.args.both.old c.args.both.new) f c.from_residual-in_err-refused.result c.from_residual-in_err-refused.ensures
          (subst (λ (r : Result Placed Fault). shows c.args.both.old r (Err f)) (sym second) (Err f, c.in_err-refused.ensures, (refl, refl, refl))),
      λ never. appends_nothing (g.E.OctetSink.held c.args.streams.now.errors),
    )

pub returns-in-Some-clause-shown : goal.returns-in-Some-clause-shown
returns-in-Some-clause-shown g c =
    let answers = answers_by (g.M.Machine.Asks c.args.asked.now.machine.now) g.M.Machine.Answers in
    let request = c.args.asked.now.request.now in
    let text = c.args.asked.now.text.now in
    let most = c.args.most in
    let held = writer_contents g.W.Write.contents c.args.streams.now.output in
    let shows = λ (old : Result Placed Fault). λ (new : Result Placed Fault). λ (said : Result Said Fault).
    ShowsReload answers request text most held held [] old new said in
    let new = c.in_ok-new.new in
    let refused = c.in-Some.refused in
    let second : c.args.both.new ≡ Ok new = search rules in
    let sound : IsHeldTo new.config (Ok (Some refused)) =
    subst (λ (found : Option Said). IsHeldTo new.config (Ok found)) c.in-Some.is c.in_ok-refused.ensures in (
      [],
      subst (λ (r : Result Placed Fault). shows c.args.both.old r (Ok refused)) (sym second) (Ok (Some refused), sound, (refl, refl, refl)),
      λ never. appends_nothing (g.E.OctetSink.held c.args.streams.now.errors),
    )

pub returns-clause-shown : goal.returns-clause-shown
returns-clause-shown g c =
    let answers = answers_by (g.M.Machine.Asks c.args.asked.now.machine.now) g.M.Machine.Answers in
    let request = c.args.asked.now.request.now in
    let text = c.args.asked.now.text.now in
    let most = c.args.most in
    let held = writer_contents g.W.Write.contents c.args.streams.now.output in
    let shows = λ (old : Result Placed Fault). λ (new : Result Placed Fault). λ (said : Result Said Fault).
    ShowsReload answers request text most held held [] old new said in
    let new = c.in_ok-new.new in
    let f = c.in-Err.fault in
    let said : Result Said Fault = Err c.of_other.result in
    let first : c.args.both.old ≡ Err f = c.in-Err.is in
    let second : c.args.both.new ≡ Ok new = search rules in
    let sound : IsHeldTo new.config (Ok None) =
    subst (λ (refused : Option Said). IsHeldTo new.config (Ok refused)) c.in_default.is c.in_ok-refused.ensures in (
      [],
      subst (λ (r : Result Placed Fault). shows r c.args.both.new said) (sym first)
          (subst (λ (r : Result Placed Fault). shows (Err f) r said) (sym second) (Ok None, sound, (ap Err c.of_other.ensures, refl, refl))),
      λ never. appends_nothing (g.E.OctetSink.held c.args.streams.now.errors),
    )
