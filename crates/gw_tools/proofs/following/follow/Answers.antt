use Rattle.std.proofs.Common.{◌≡◌, [], ℕ, List, Option, Some, Result, Ok, Err, false, ap, refl, rules, subst, sym}
use Rattle.std.specs.Global.{Vec}
use Rattle.std.specs.Io.Buffered.{writer_contents}
use Rattle.std.specs.Io.KnownBytes.{Appends}
use Rattle.std.specs.Prelude.{option_map, string_bytes}
use Rattle.gw_ending.specs.declared.fault.Fault.TheVariants as fault
use Rattle.gw_ending.specs.declared.fault.Fault.{Fault}
use Rattle.gw_ending.specs.declared.reading.printing.Said.{Said}
use Rattle.gw_ending.specs.reading.Configured.{IsConfigured}
use Rattle.gw_ending.specs.reading.Files.{result_map}
use Rattle.gw_policy_drafts.specs.declared.suggestion.suggestion.Manner.{Manner}
use Rattle.gw_report.specs.points.Points.{points_text}
use Rattle.gw_tool_line.specs.declared.command_line.Choice.TheVariants as choice
use Rattle.gw_tools.specs.Asking.{asks_in}
use Rattle.gw_tools.specs.Beginning.{SaysBegun, text_of}
use Rattle.gw_tools.specs.Checked.{SaysChecked}
use Rattle.gw_tools.specs.Comparing.{IsCompared, SaysCompared}
use Rattle.gw_tools.specs.Json.{IsMade, SaysCheckedInJson}
use Rattle.gw_tools.specs.Kept.{SaysStateIn}
use Rattle.gw_tools.specs.Objects.{LeavesJudgedIn}
use Rattle.gw_tools.specs.Placed.{IsPlacedIn}
use Rattle.gw_tools.specs.Program.{LeavesAnsweredIn, LeavesSuggestedIn}
use Rattle.gw_tools.specs.Questioning.{SaysAnswer, asked_text}
use Rattle.gw_tools.specs.Reloading.{SaysReloadIn, SaysStatus, SaysStopped, answers_by}
use Rattle.gw_tools.specs.Reporting.{IsPageOf}
use Rattle.gw_tools.specs.Rewritten.{IsListed, SaysMigrated}
use Rattle.gw_tools.specs.Saying.{SaysIn, SaysMade, SaysOf, SaysOfBoth, SaysOfFile, SaysPlacedIn}
use Rattle.gw_tools.specs.declared.asking.Answering.{Answering}
use Rattle.gw_tools.specs.declared.comparing.Layout.TheVariants as layout
use Rattle.gw_tools.specs.declared.comparing.Limits.{Limits}
use Rattle.gw_notices.proofs.AppendLemmas.{appends_nothing}
use Rattle.gw_tools.proofs.ChoiceLemmas.{followed, left, printed, reported, unreported}
use Rattle.gw_tools.proofs.following.follow.Goals as goal
use Rattle.gw_tools.proofs.following.follow.Goals.{in-Ok-Check+in-Ok-text, in-Ok-Check+in-Err-1, in-Ok-CheckJson+in-Ok-text-2, in-Ok-CheckJson+in-Err-1, in-Ok-Migrate, in-Ok-Reload}
use Rattle.gw_tools.proofs.following.follow.Goals.{in-Ok-Stop, in-Ok-Status, in-Ok-Compare, in-Ok-CompareJson, in-Ok-Points, in-Ok-Rules}
use Rattle.gw_tools.proofs.following.follow.Goals.{in-Ok-State+in-Ok-text-3, in-Ok-State+in-Err-1, in-Ok-Report, in-Ok-Ask, in-Ok-Init, in-Ok-Usage}
use Rattle.gw_tools.proofs.following.follow.Goals.{in-Err}

pub returns-in-Ok-Why-clause-followed : goal.returns-in-Ok-Why-clause-followed
returns-in-Ok-Why-clause-followed g c =
    let chosen = choice.Why c.in-Ok-Why.file c.in-Ok-Why.counts c.in-Ok-Why.strict in
    let how : Answering = record { counts = c.in-Ok-Why.counts; strict = c.in-Ok-Why.strict } in
    let is : c.args.choice.now ≡ Ok chosen = search rules in
    let held = writer_contents g.W.Write.contents c.args.streams.now.output in
    let holds = writer_contents g.W.Write.contents c.answer_in.new.streams.output in
    let done = c.answer_in.ensures.answered in
    let named = subst (λ (name : List ℕ). LeavesAnsweredIn (g.F.ConfigFiles.Reads c.args.files.now) name how
    (g.R.OctetSource.left c.args.streams.now.input) held holds done.0 c.answer_in.result) c.deref-in-Ok-Why.ensures done.1 in
    reported _ _ c.args.choice.now (Ok chosen) c.answer_in.result done.0 is tt named done.2

pub returns-in-Ok-Judge-clause-followed : goal.returns-in-Ok-Judge-clause-followed
returns-in-Ok-Judge-clause-followed g c =
    let chosen = choice.Judge c.in-Ok-Judge.file c.in-Ok-Judge.strict in
    let is : c.args.choice.now ≡ Ok chosen = search rules in
    let held = writer_contents g.W.Write.contents c.args.streams.now.output in
    let holds = writer_contents g.W.Write.contents c.judge_in.new.streams.output in
    let done = c.judge_in.ensures.judged in
    let named = subst (λ (name : List ℕ). LeavesJudgedIn (g.F.ConfigFiles.Reads c.args.files.now) name
    (asks_in c.in-Ok-Judge.strict (g.R.OctetSource.left c.args.streams.now.input)) held holds c.judge_in.result) c.deref-in-Ok-Judge.ensures done.1 in
    reported _ _ c.args.choice.now (Ok chosen) c.judge_in.result done.0 is tt (named, done.2) done.3

pub returns-in-Ok-Suggest-clause-followed : goal.returns-in-Ok-Suggest-clause-followed
returns-in-Ok-Suggest-clause-followed g c =
    let chosen = choice.Suggest c.in-Ok-Suggest.file c.in-Ok-Suggest.fills c.in-Ok-Suggest.exact in
    let manner : Manner = record { keeps_services = c.in-Ok-Suggest.exact; fills = c.in-Ok-Suggest.fills } in
    let is : c.args.choice.now ≡ Ok chosen = search rules in
    let held = writer_contents g.W.Write.contents c.args.streams.now.output in
    let holds = writer_contents g.W.Write.contents c.suggest_shown.new.streams.output in
    let done = c.suggest_shown.ensures.suggested in
    let named = subst (λ (name : List ℕ). LeavesSuggestedIn (g.F.ConfigFiles.Reads c.args.files.now) name manner
    (asks_in false (g.R.OctetSource.left c.args.streams.now.input)) held holds c.suggest_shown.result) c.deref-in-Ok-Suggest.ensures done.1 in
    reported _ _ c.args.choice.now (Ok chosen) c.suggest_shown.result done.0 is tt (named, done.2) done.3

pub returns-in-Ok-Log-clause-followed : goal.returns-in-Ok-Log-clause-followed
returns-in-Ok-Log-clause-followed g c =
    let chosen = choice.Log c.in-Ok-Log.file c.in-Ok-Log.start in
    let is : c.args.choice.now ≡ Ok chosen = search rules in
    followed _ _ c.args.choice.now (Ok chosen) c.translate_in.result is refl c.translate_in.ensures.output
    (λ never. appends_nothing (g.E.OctetSink.held c.args.streams.now.errors))

pub returns-in-Ok-Objects-clause-followed : goal.returns-in-Ok-Objects-clause-followed
returns-in-Ok-Objects-clause-followed g c =
    let chosen = choice.Objects c.in-Ok-Objects.file in
    let is : c.args.choice.now ≡ Ok chosen = search rules in
    followed _ _ c.args.choice.now (Ok chosen) c.list_in.result is refl c.list_in.ensures.output
    (λ never. appends_nothing (g.E.OctetSink.held c.args.streams.now.errors))

pub returns-clause-followed : goal.returns-clause-followed
returns-clause-followed g c =
    let contents = writer_contents g.W.Write.contents in
    let errors = g.E.OctetSink.held in
    let reads = g.F.ConfigFiles.Reads c.args.files.now in
    let states = g.F.ConfigFiles.ReadsState c.args.files.now in
    let logs = g.F.ConfigFiles.ReadsLog c.args.files.now in
    let answers = answers_by (g.M.Machine.Asks c.args.machine.now) g.M.Machine.Answers in
    let held = contents c.args.streams.now.output in
    let mid = contents c.match-choice.streams.output in
    let holds = contents c.print_said.new.output in
    let was = errors c.args.streams.now.errors in
    let now = errors c.match-choice.streams.errors in
    let said = c.match-choice.said in
    let outcome = c.print_said.result in
    let leaves = c.print_said.ensures.output in
    let says = λ (Says : Result Said Fault → Type 0). λ (here : Result Said Fault). λ (is : said ≡ here). λ (same : mid ≡ held).
    λ (so : Says here). printed Says said here held mid holds outcome is same leaves so in
    let quiet = λ (same : now ≡ was). λ (never : g.E.OctetSink.NeverFails c.args.streams.now.errors). unreported was now same in
    let adds = λ (text : List ℕ). λ (there : Option (List ℕ)). λ (same : now ≡ there).
    λ (appends : g.E.OctetSink.NeverFails c.args.streams.now.errors → Appends was there text).
    λ (never : g.E.OctetSink.NeverFails c.args.streams.now.errors). subst (λ (at : Option (List ℕ)). Appends was at text) (sym same) (appends never) in
    elim c.match-choice.branch [
      | in-Ok-Check+in-Ok-text w ↦
          let file = w.in-Ok-Check.file in
          let explains = w.in-Ok-Check.explains in
          let lints = w.in-Ok-Check.lints in
          let is : c.args.choice.now ≡ Ok (choice.Check file explains lints) = search rules in
          let text = result_map (λ (octets : Vec ℕ). octets.items) w.read-text.result in
          let read = subst (λ (name : List ℕ). reads name text) w.deref.ensures w.read-text.ensures in
          followed _ _ c.args.choice.now (Ok (choice.Check file explains lints)) outcome is refl
          (says (SaysOfFile reads (string_bytes file) (SaysChecked explains lints)) w.check-said.result w.said-is
          (ap (λ s. contents s.output) w.streams-is) (text, read, w.check-said.ensures)) (quiet (ap (λ s. errors s.errors) w.streams-is))
      | in-Ok-Check+in-Err-1 w ↦
          let file = w.in-Ok-Check.file in
          let explains = w.in-Ok-Check.explains in
          let lints = w.in-Ok-Check.lints in
          let is : c.args.choice.now ≡ Ok (choice.Check file explains lints) = search rules in
          let text = result_map (λ (octets : Vec ℕ). octets.items) w.read-text.result in
          let read = subst (λ (name : List ℕ). reads name text) w.deref.ensures w.read-text.ensures in
          followed _ _ c.args.choice.now (Ok (choice.Check file explains lints)) outcome is refl
          (says (SaysOfFile reads (string_bytes file) (SaysChecked explains lints)) w.check-said.result w.said-is
          (ap (λ s. contents s.output) w.streams-is) (text, read, w.check-said.ensures)) (quiet (ap (λ s. errors s.errors) w.streams-is))
      | in-Ok-CheckJson+in-Ok-text-2 w ↦
          let file = w.in-Ok-CheckJson.file in
          let is : c.args.choice.now ≡ Ok (choice.CheckJson file) = search rules in
          let text = result_map (λ (octets : Vec ℕ). octets.items) w.read-text-in-Ok-CheckJson.result in
          let read = subst (λ (name : List ℕ). reads name text) w.deref-in-Ok-CheckJson.ensures w.read-text-in-Ok-CheckJson.ensures in
          followed _ _ c.args.choice.now (Ok (choice.CheckJson file)) outcome is refl
          (says (SaysOfFile reads (string_bytes file) SaysCheckedInJson) w.check_in_json-said.result w.said-is
          (ap (λ s. contents s.output) w.streams-is) (text, read, w.check_in_json-said.ensures)) (quiet (ap (λ s. errors s.errors) w.streams-is))
      | in-Ok-CheckJson+in-Err-1 w ↦
          let file = w.in-Ok-CheckJson.file in
          let is : c.args.choice.now ≡ Ok (choice.CheckJson file) = search rules in
          let text = result_map (λ (octets : Vec ℕ). octets.items) w.read-text-in-Ok-CheckJson.result in
          let read = subst (λ (name : List ℕ). reads name text) w.deref-in-Ok-CheckJson.ensures w.read-text-in-Ok-CheckJson.ensures in
          followed _ _ c.args.choice.now (Ok (choice.CheckJson file)) outcome is refl
          (says (SaysOfFile reads (string_bytes file) SaysCheckedInJson) w.check_in_json-said.result w.said-is
          (ap (λ s. contents s.output) w.streams-is) (text, read, w.check_in_json-said.ensures)) (quiet (ap (λ s. errors s.errors) w.streams-is))
      | in-Ok-Migrate w ↦
          let file = w.in-Ok-Migrate.file in
          let is : c.args.choice.now ≡ Ok (choice.Migrate file) = search rules in
          let config = w.configuration_in-config.result in
          let configured = subst (λ (name : List ℕ). IsConfigured reads (Some name) config) w.deref-in-Ok-Migrate.ensures
          w.configuration_in-config.ensures in
          followed _ _ c.args.choice.now (Ok (choice.Migrate file)) outcome is refl
          (says (SaysIn reads (string_bytes file) SaysMigrated) w.say_in_format_three-said.result w.said-is
          (ap (λ s. contents s.output) w.streams-is) (config, configured, w.say_in_format_three-said.ensures)) (quiet (ap (λ s. errors s.errors) w.streams-is))
      | in-Ok-Reload w ↦
          let config = w.in-Ok-Reload.config in
          let request = w.in-Ok-Reload.request in
          let shown = w.in-Ok-Reload.was in
          let is : c.args.choice.now ≡ Ok (choice.Reload config request shown) = search rules in
          let done = w.reload_in-said.ensures.reloaded in
          let there = contents w.reload_in-said.new.streams.output in
          let named = subst (λ (name : List ℕ). SaysReloadIn reads answers name w.deref-in-Ok-Reload-2.result.now shown held there done.0
          w.reload_in-said.result) w.deref-in-Ok-Reload.ensures done.1 in
          let both = subst (λ (name : List ℕ). SaysReloadIn reads answers (string_bytes config) name shown held there done.0
          w.reload_in-said.result) w.deref-in-Ok-Reload-2.ensures named in
          reported _ _ c.args.choice.now (Ok (choice.Reload config request shown)) outcome done.0 is tt (
            there,
            printed (SaysReloadIn reads answers (string_bytes config) (string_bytes request) shown held there done.0) said
                w.reload_in-said.result there mid holds outcome w.said-is (ap (λ s. contents s.output) w.streams-is) leaves both,
          )
          (adds done.0 _ (ap (λ s. errors s.errors) w.streams-is) done.2)
      | in-Ok-Stop w ↦
          let request = w.in-Ok-Stop.request in
          let waits = w.in-Ok-Stop.waits in
          let is : c.args.choice.now ≡ Ok (choice.Stop request waits) = search rules in
          let named = subst (λ (name : List ℕ). SaysStopped answers name w.stop-said.result) w.deref-in-Ok-Stop.ensures
          w.stop-said.ensures in
          followed _ _ c.args.choice.now (Ok (choice.Stop request waits)) outcome is refl
          (says (SaysStopped answers (string_bytes request)) w.stop-said.result w.said-is
          (ap (λ s. contents s.output) w.streams-is) named) (quiet (ap (λ s. errors s.errors) w.streams-is))
      | in-Ok-Status w ↦
          let request = w.in-Ok-Status.request in
          let waits = w.in-Ok-Status.waits in
          let is : c.args.choice.now ≡ Ok (choice.Status request waits) = search rules in
          let named = subst (λ (name : List ℕ). SaysStatus answers name w.status-said.result) w.deref-in-Ok-Status.ensures
          w.status-said.ensures in
          followed _ _ c.args.choice.now (Ok (choice.Status request waits)) outcome is refl
          (says (SaysStatus answers (string_bytes request)) w.status-said.result w.said-is
          (ap (λ s. contents s.output) w.streams-is) named) (quiet (ap (λ s. errors s.errors) w.streams-is))
      | in-Ok-Compare w ↦
          let first = w.in-Ok-Compare.old in
          let second = w.in-Ok-Compare.new in
          let most = w.in-Ok-Compare.most in
          let steps = w.in-Ok-Compare.steps in
          let is : c.args.choice.now ≡ Ok (choice.Compare first second most steps) = search rules in
          let limits : Limits = record { most = most; layout = layout.Text steps } in
          let both = w.both_in-both.result in
          let is_old = subst (λ (name : List ℕ). IsPlacedIn reads name both.old) w.deref-in-Ok-Compare.ensures w.both_in-both.ensures.old in
          let is_new = subst (λ (name : List ℕ). IsPlacedIn reads name both.new) w.deref-in-Ok-Compare-2.ensures w.both_in-both.ensures.new in
          let done = w.compare-said.ensures.said in
          let compared = says (SaysOfBoth (λ x y. SaysCompared (IsCompared limits x y)) both.old both.new) w.compare-said.result w.said-is
          (ap (λ s. contents s.output) w.streams-is) w.compare-said.ensures.compared in
          reported _ _ c.args.choice.now (Ok (choice.Compare first second most steps)) outcome done.0 is tt
          (both.old, is_old, both.new, is_new, compared, done.1) (adds done.0 _ (ap (λ s. errors s.errors) w.streams-is) done.2)
      | in-Ok-CompareJson w ↦
          let first = w.in-Ok-CompareJson.old in
          let second = w.in-Ok-CompareJson.new in
          let most = w.in-Ok-CompareJson.most in
          let is : c.args.choice.now ≡ Ok (choice.CompareJson first second most) = search rules in
          let limits : Limits = record { most = most; layout = layout.Json } in
          let both = w.both_in-both-in-Ok-CompareJson.result in
          let is_old = subst (λ (name : List ℕ). IsPlacedIn reads name both.old) w.deref-in-Ok-CompareJson.ensures
          w.both_in-both-in-Ok-CompareJson.ensures.old in
          let is_new = subst (λ (name : List ℕ). IsPlacedIn reads name both.new) w.deref-in-Ok-CompareJson-2.ensures
          w.both_in-both-in-Ok-CompareJson.ensures.new in
          let done = w.compare-said-in-Ok-CompareJson.ensures.said in
          let compared = says (SaysOfBoth (λ x y. SaysCompared (IsCompared limits x y)) both.old both.new) w.compare-said-in-Ok-CompareJson.result
          w.said-is (ap (λ s. contents s.output) w.streams-is) w.compare-said-in-Ok-CompareJson.ensures.compared in
          reported _ _ c.args.choice.now (Ok (choice.CompareJson first second most)) outcome done.0 is tt
          (both.old, is_old, both.new, is_new, compared, done.1) (adds done.0 _ (ap (λ s. errors s.errors) w.streams-is) done.2)
      | in-Ok-Points w ↦
          let file = w.in-Ok-Points.file in
          let is : c.args.choice.now ≡ Ok (choice.Points file) = search rules in
          let config = w.configuration_in-config-in-Ok-Points.result in
          let configured = subst (λ (name : List ℕ). IsConfigured reads (Some name) config) w.deref-in-Ok-Points.ensures
          w.configuration_in-config-in-Ok-Points.ensures in
          followed _ _ c.args.choice.now (Ok (choice.Points file)) outcome is refl
          (says (SaysIn reads (string_bytes file) (λ c. SaysMade (IsMade (points_text c)))) w.say_points-said.result w.said-is
          (ap (λ s. contents s.output) w.streams-is) (config, configured, w.say_points-said.ensures)) (quiet (ap (λ s. errors s.errors) w.streams-is))
      | in-Ok-Rules w ↦
          let file = w.in-Ok-Rules.file in
          let is : c.args.choice.now ≡ Ok (choice.Rules file) = search rules in
          let placed = w.placed_in-placed.result in
          let is_placed = subst (λ (name : List ℕ). IsPlacedIn reads name placed) w.deref-in-Ok-Rules.ensures
          w.placed_in-placed.ensures in
          followed _ _ c.args.choice.now (Ok (choice.Rules file)) outcome is refl
          (says (SaysPlacedIn reads (string_bytes file) (λ p. SaysMade (IsListed p))) w.say_rules-said.result w.said-is
          (ap (λ s. contents s.output) w.streams-is) (placed, is_placed, w.say_rules-said.ensures)) (quiet (ap (λ s. errors s.errors) w.streams-is))
      | in-Ok-State+in-Ok-text-3 w ↦
          let file = w.in-Ok-State.config in
          let state = w.in-Ok-State.state in
          let is : c.args.choice.now ≡ Ok (choice.State file state) = search rules in
          let config = w.configuration_in-config-in-Ok-State.result in
          let configured = subst (λ (name : List ℕ). IsConfigured reads (Some name) config) w.deref-in-Ok-State.ensures
          w.configuration_in-config-in-Ok-State.ensures in
          let text = result_map (λ (octets : Vec ℕ). octets.items) w.read_state-text.result in
          let read = subst (λ (name : List ℕ). states name text) w.deref-in-Ok-State-2.ensures w.read_state-text.ensures in
          followed _ _ c.args.choice.now (Ok (choice.State file state)) outcome is refl
          (says (SaysStateIn reads states (string_bytes file) (string_bytes state)) w.say_state-said.result w.said-is
          (ap (λ s. contents s.output) w.streams-is) (config, configured, text, read, w.say_state-said.ensures)) (quiet (ap (λ s. errors s.errors) w.streams-is))
      | in-Ok-State+in-Err-1 w ↦
          let file = w.in-Ok-State.config in
          let state = w.in-Ok-State.state in
          let is : c.args.choice.now ≡ Ok (choice.State file state) = search rules in
          let config = w.configuration_in-config-in-Ok-State.result in
          let configured = subst (λ (name : List ℕ). IsConfigured reads (Some name) config) w.deref-in-Ok-State.ensures
          w.configuration_in-config-in-Ok-State.ensures in
          let text = result_map (λ (octets : Vec ℕ). octets.items) w.read_state-text.result in
          let read = subst (λ (name : List ℕ). states name text) w.deref-in-Ok-State-2.ensures w.read_state-text.ensures in
          followed _ _ c.args.choice.now (Ok (choice.State file state)) outcome is refl
          (says (SaysStateIn reads states (string_bytes file) (string_bytes state)) w.say_state-said.result w.said-is
          (ap (λ s. contents s.output) w.streams-is) (config, configured, text, read, w.say_state-said.ensures)) (quiet (ap (λ s. errors s.errors) w.streams-is))
      | in-Ok-Report w ↦
          let file = w.in-Ok-Report.file in
          let log = w.in-Ok-Report.log in
          let is : c.args.choice.now ≡ Ok (choice.Report file log) = search rules in
          let placed = w.placed_in-placed-in-Ok-Report.result in
          let is_placed = subst (λ (name : List ℕ). IsPlacedIn reads name placed) w.deref-in-Ok-Report.ensures
          w.placed_in-placed-in-Ok-Report.ensures in
          followed _ _ c.args.choice.now (Ok (choice.Report file log)) outcome is refl
          (says (SaysPlacedIn reads (string_bytes file) (λ p. SaysMade (IsPageOf logs (option_map string_bytes log) p))) w.say_page-said.result w.said-is
          (ap (λ s. contents s.output) w.streams-is) (placed, is_placed, w.say_page-said.ensures)) (quiet (ap (λ s. errors s.errors) w.streams-is))
      | in-Ok-Ask w ↦
          let file = w.in-Ok-Ask.file in
          let from = w.in-Ok-Ask.from in
          let to = w.in-Ok-Ask.to in
          let deed = w.in-Ok-Ask.deed in
          let is : c.args.choice.now ≡ Ok (choice.Ask file from to deed) = search rules in
          let config = w.configuration_in-config-in-Ok-Ask.result in
          let configured = subst (λ (name : List ℕ). IsConfigured reads (Some name) config) w.deref-in-Ok-Ask.ensures
          w.configuration_in-config-in-Ok-Ask.ensures in
          let whom = option_map string_bytes to in
          let answered = subst (λ (name : List ℕ). SaysOf (SaysAnswer (asked_text name whom deed)) config w.say_answer-said.result)
          w.deref-in-Ok-Ask-2.ensures w.say_answer-said.ensures in
          followed _ _ c.args.choice.now (Ok (choice.Ask file from to deed)) outcome is refl
          (says (SaysIn reads (string_bytes file) (SaysAnswer (asked_text (string_bytes from) whom deed))) w.say_answer-said.result w.said-is
          (ap (λ s. contents s.output) w.streams-is) (config, configured, answered)) (quiet (ap (λ s. errors s.errors) w.streams-is))
      | in-Ok-Init w ↦
          let site = w.in-Ok-Init.site in
          let is : c.args.choice.now ≡ Ok (choice.Init site) = search rules in
          let done = w.begin_site-said.ensures.begun in
          reported _ _ c.args.choice.now (Ok (choice.Init site)) outcome done.0 is tt
          (says (SaysBegun (text_of site) done.0) w.begin_site-said.result w.said-is
          (ap (λ s. contents s.output) w.streams-is) done.1) (adds done.0 _ (ap (λ s. errors s.errors) w.streams-is) done.2)
      | in-Ok-Usage w ↦
          let text = w.in-Ok-Usage.field-0-0 in
          let is : c.args.choice.now ≡ Ok (choice.Usage text) = search rules in
          followed _ _ c.args.choice.now (Ok (choice.Usage text)) outcome is refl
          (left said (Err fault.CommandLine) held mid holds outcome w.said-is (ap (λ s. contents s.output) w.streams-is) leaves)
          (quiet (ap (λ s. errors s.errors) w.streams-is))
      | in-Err w ↦
          let f = w.in-Err.fault in
          let is : c.args.choice.now ≡ Err f = search rules in
          followed _ _ c.args.choice.now (Err f) outcome is refl
          (left said (Err f) held mid holds outcome w.said-is (ap (λ s. contents s.output) w.streams-is) leaves)
          (quiet (ap (λ s. errors s.errors) w.streams-is))
    ]
