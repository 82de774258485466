use Rattle.std.proofs.Common.{◌≡◌, Ok, refl, rules, subst, ℕ, List}
use Rattle.std.specs.Global.{Vec}
use Rattle.gw_ending.specs.reading.Files.{result_map}
use Rattle.gw_command_line.specs.declared.command_line.Choice.TheVariants as choice
use Rattle.gw_shell.proofs.ChoiceLemmas.{followed, reported}
use Rattle.gw_notices.proofs.AppendLemmas.{appends_nothing}
use Rattle.gw_shell.proofs.program.follow.Goals as goal

pub returns-in-Ok-Check-clause-followed : goal.returns-in-Ok-Check-clause-followed
returns-in-Ok-Check-clause-followed g c =
    let chosen = choice.Check c.in-Ok-Check.file in
    let is : c.args.choice.now ≡ Ok chosen = search rules in
    let text = result_map (λ (octets : Vec ℕ). octets.items) c.read-text.result in
    let reads = subst (λ (name : List ℕ). g.F.ConfigFiles.Reads c.args.files.now name text) c.deref.ensures c.read-text.ensures in
    followed _ _ c.args.choice.now (Ok chosen) c.check.result is refl (text, reads, c.check.ensures.output)
    (λ never. appends_nothing (g.E.OctetSink.held c.args.streams.now.errors))

pub returns-in-Ok-Replay-clause-followed : goal.returns-in-Ok-Replay-clause-followed
returns-in-Ok-Replay-clause-followed g c =
    let chosen = choice.Replay c.in-Ok-Replay.file c.in-Ok-Replay.explains c.in-Ok-Replay.counts in
    let is : c.args.choice.now ≡ Ok chosen = search rules in
    let done = c.play_in.ensures.played in
    reported _ _ c.args.choice.now (Ok chosen) c.play_in.result done.0 is tt done.1 done.2

pub returns-in-Ok-Run-clause-followed : goal.returns-in-Ok-Run-clause-followed
returns-in-Ok-Run-clause-followed g c =
    let chosen = choice.Run c.in-Ok-Run.options in
    let is : c.args.choice.now ≡ Ok chosen = search rules in
    let done = c.serve.ensures.served in
    let text = result_map (λ (octets : Vec ℕ). octets.items) c.read-text-in-Ok-Run.result in
    let reads = subst (λ (name : List ℕ). g.F.ConfigFiles.Reads c.args.files.now name text) c.deref-in-Ok-Run.ensures
    c.read-text-in-Ok-Run.ensures in
    reported _ _ c.args.choice.now (Ok chosen) c.serve.result done.0 is tt (text, reads, done.1, done.2, done.3) done.4
