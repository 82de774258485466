-- The worked command lines.
use Rattle.std.proofs.Common.{refl, Some, None}
use Rattle.clap.proofs.OnLiterals.{clap_on_literals}
use Rattle.gw_log_words.proofs.MomentExamples.{morning, morning_is_read}
use Rattle.gw_tool_line.specs.Calls.{CallsAreRefused, CallsAreTaken}
use Rattle.gw_tool_line.specs.Commands.{commands, first_commands, later_commands, middle_commands, most_commands}

pub calls_are_taken : CallsAreTaken
unfolding clap_on_literals commands most_commands later_commands middle_commands first_commands
calls_are_taken = record {
  check = λ program. record { taken = refl; asked = refl; sound = λ void. void };
  explain = λ program. record { taken = refl; asked = refl; sound = λ void. void };
  explain_lint = λ program. record { taken = refl; asked = refl; sound = λ void. void };
  lint = λ program. record { taken = refl; asked = refl; sound = λ void. void };
  migrate = λ program. record { taken = refl; asked = refl; sound = λ void. void };
  check_json = λ program. record { taken = refl; asked = refl; sound = λ void. void };
  why = λ program. record { taken = refl; asked = refl; sound = λ void. void };
  why_count = λ program. record { taken = refl; asked = refl; sound = λ void. void };
  why_strict = λ program. record { taken = refl; asked = refl; sound = λ void. void };
  compare = λ program. record { taken = refl; asked = refl; sound = λ void. void };
  compare_steps = λ program. record { taken = refl; asked = refl; sound = λ void. void };
  compare_json = λ program. record { taken = refl; asked = refl; sound = λ void. void };
  state = λ program. record { taken = refl; asked = refl; sound = λ void. void };
  suggest = λ program. record { taken = refl; asked = refl; sound = λ void. void };
  suggest_whole = λ program. record { taken = refl; asked = refl; sound = λ void. void };
  reload = λ program. record { taken = refl; asked = refl; sound = λ void. void };
  reload_shown = λ program. record { taken = refl; asked = refl; sound = λ void. void };
  reload_few = λ program. record { taken = refl; asked = refl; sound = λ void. void };
  report = λ program. record { taken = refl; asked = refl; sound = λ void. void };
  points = λ program. record { taken = refl; asked = refl; sound = λ void. void };
  rules = λ program. record { taken = refl; asked = refl; sound = λ void. void };
  stop = λ program. record { taken = refl; asked = refl; sound = λ void. void };
  stop_waiting = λ program. record { taken = refl; asked = refl; sound = λ void. void };
  status = λ program. record { taken = refl; asked = refl; sound = λ void. void };
  status_waiting = λ program. record { taken = refl; asked = refl; sound = λ void. void };
  ask_to_read = λ program. record { taken = refl; asked = refl; sound = λ void. void };
  ask_to_write = λ program. record { taken = refl; asked = refl; sound = λ void. void };
  ask_to_write_at = λ program. record { taken = refl; asked = refl; sound = λ void. void };
  ask_for_service = λ program. record { taken = refl; asked = refl; sound = λ void. void };
  ask_who_is = λ program. record { taken = refl; asked = refl; sound = λ void. void };
  ask_to_register = λ program. record { taken = refl; asked = refl; sound = λ void. void };
  init = λ program. record { taken = refl; asked = refl; sound = λ void. void };
  init_whole = λ program. record { taken = refl; asked = refl; sound = λ void. void };
  log = λ program. record { taken = refl; asked = refl; sound = λ void. void None refl };
  log_of_file = λ program. record { taken = refl; asked = refl; sound = λ void. void None refl };
  log_json = λ program. record { taken = refl; asked = refl; sound = λ void. void };
  log_json_of_file = λ program. record { taken = refl; asked = refl; sound = λ void. void };
  why_json = λ program. record { taken = refl; asked = refl; sound = λ void. void };
  why_json_strict = λ program. record { taken = refl; asked = refl; sound = λ void. void };
  log_since = λ program. record { taken = refl; asked = refl; sound = λ void. void (Some morning) morning_is_read };
}

pub calls_are_refused : CallsAreRefused
unfolding clap_on_literals commands most_commands later_commands middle_commands first_commands
calls_are_refused = record {
  check_json_explain = λ program. refl;
  check_json_lint = λ program. refl;
  check_json_migrate = λ program. refl;
  why_json_count = λ program. (refl, refl);
  compare_json_steps = λ program. (refl, refl);
  reload_most = λ program. (refl, refl);
  reload_config = λ program. (refl, refl);
  reload_was = λ program. (refl, refl);
  compare_most = λ program. refl;
  reload_none = λ program. refl;
  logs = λ program. refl;
  init_nowhere = λ program. refl;
  status_nobody = λ program. refl;
  stop_nobody = λ program. refl;
  points = λ program. refl;
  ask_both = λ program. (refl, refl);
  ask_neither = λ program. (refl, refl);
  ask_twice = λ program. (refl, refl);
  ask_priority = λ program. (refl, refl);
  ask_nobody = λ program. refl;
}
