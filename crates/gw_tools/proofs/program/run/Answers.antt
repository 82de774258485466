use Rattle.std.proofs.Common.{◌++◌, List, subst, ℕ}
use Rattle.std.specs.Io.KnownBytes.{Appends}
use Rattle.gw_tools.specs.Ending.{error_text_by, usage_of}
use Rattle.gw_notices.proofs.AppendLemmas.{appends_two}
use Rattle.gw_tools.proofs.program.run.Goals as goal

pub returns : goal.returns
returns g c =
    let held = g.E.OctetSink.held in
    let chosen = c.choice_from-choice.result in
    let outcome = c.follow-outcome.result in
    let done = c.follow-outcome.ensures.followed in
    let placed = c.report_place_by.ensures.place in record {
      run = record {
        choice = chosen;
        outcome = outcome;
        said = done.said;
        words = c.choice_from-choice.ensures;
        output = done.output;
        quiet = done.quiet;
        flush = c.follow-outcome.ensures.flush;
        place = placed.0;
        placed = placed.1;
        errors = λ never.
            let followed = c.follow-outcome.ensures.lasting never in
            let lasting = c.report_place_by.ensures.lasts followed in
            appends_two (held c.args.streams.now.errors) (held c.end_by-exit.new.errors) (held c.write_note.new.errors)
            (done.said ++ placed.0 ++ error_text_by chosen outcome) (usage_of chosen)
            (appends_two (held c.args.streams.now.errors) (held c.report_place_by.new.errors) (held c.end_by-exit.new.errors) (done.said ++ placed.0) (error_text_by chosen outcome)
            (appends_two (held c.args.streams.now.errors) (held c.follow-outcome.new.streams.errors) (held c.report_place_by.new.errors) done.said placed.0
            (done.errors never) (placed.2 followed)) (c.end_by-exit.ensures.line lasting))
            (subst (λ (text : List ℕ). Appends (held c.end_by-exit.new.errors) (held c.write_note.new.errors) text) c.usage_of.ensures
            (c.write_note.ensures.said (c.end_by-exit.ensures.lasts lasting)));
        status = c.end_by-exit.ensures.status;
      };
    }
