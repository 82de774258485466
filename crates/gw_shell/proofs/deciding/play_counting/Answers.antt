use Rattle.gw_shell.specs.Deciding.{decisions_text}
use Rattle.std.proofs.Common.{subst, ℕ, List}
use Rattle.std.specs.Io.KnownBytes.{Appends}
use Rattle.gw_shell.proofs.deciding.play_counting.Goals as goal

pub returns-clause-counted : goal.returns-clause-counted
returns-clause-counted g c =
    let held = g.E.OctetSink.held in (
      decisions_text c.replay_counting-counted.result.decisions,
      c.replay_counting-counted.ensures.output,
      λ never. subst (λ (text : List ℕ). Appends (held c.args.streams.now.errors) (held c.write_note.new.errors) text) c.as_bytes.ensures
          (c.write_note.ensures.said never),
    )
