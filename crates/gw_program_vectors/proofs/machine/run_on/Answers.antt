use Rattle.std.proofs.Common.{◌++◌, refl}
use Rattle.gw_shell.specs.Ending.{error_text_by, usage_of}
use Rattle.gw_program_vectors.proofs.machine.run_on.Goals as goal

pub returns : goal.returns
returns c = λ takes_all. let ran = c.run.ensures.run in (
  ran.said ++ ran.place ++ error_text_by ran.choice ran.outcome ++ usage_of ran.choice,
  ran.errors takes_all,
  record {
    choice = ran.choice;
    outcome = ran.outcome;
    said = ran.said;
    place = ran.place;
    words = ran.words;
    quiet = ran.quiet;
    placed = ran.placed;
    lines = refl;
    status = ran.status;
  },
)
