-- The worked command lines.
use Rattle.std.proofs.Common.{refl}
use Rattle.clap.proofs.OnLiterals.{clap_on_literals}
use Rattle.gw_command_line.specs.Calls.{CallsAreRefused, CallsAreTaken}
use Rattle.gw_command_line.specs.Commands.{commands}

pub calls_are_taken : CallsAreTaken
unfolding clap_on_literals commands
calls_are_taken = record {
  check = λ program. record { taken = refl; asked = refl };
  replay = λ program. record { taken = refl; asked = refl };
  replay_explained = λ program. record { taken = refl; asked = refl };
  replay_counted = λ program. record { taken = refl; asked = refl };
  replay_of_file = λ program. record { taken = refl; asked = refl };
  run = λ program. record { taken = refl; asked = refl };
  run_whole = λ program. record { taken = refl; asked = refl };
}

pub calls_are_refused : CallsAreRefused
unfolding clap_on_literals commands
calls_are_refused = record {
  trial = λ program. (refl, refl);
  all = λ program. (refl, refl);
  stamp = λ program. (refl, refl);
  hold = λ program. (refl, refl);
  word = λ program. (refl, refl);
  rules = λ program. (refl, refl);
  metrics = λ program. (refl, refl);
  answer = λ program. (refl, refl);
  turns = λ program. refl;
  stats = λ program. refl;
  stats_long = λ program. refl;
  lint = λ program. refl;
  compare = λ program. refl;
}
