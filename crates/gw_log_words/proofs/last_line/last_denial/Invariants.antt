use Rattle.std.proofs.Common.{◌≡◌, ◌++◌, ◌∷◌, [], ◌+◌, ◌<◌, length}
use Rattle.gw_log_words.specs.LastDenial.{last_denial}
use Rattle.gw_log_words.proofs.last_line.last_denial.Given as goal

abbrev pub invariant-loop : goal.invariant-loop
invariant-loop l = record {
  same : last_denial l.fn.text ≡ last_denial (l.lines ++ 10 ∷ []);
  most : length l.lines + l.counter < length l.fn.text;
}
