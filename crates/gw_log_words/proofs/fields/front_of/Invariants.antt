use Rattle.std.proofs.Common.{◌≡◌, drop}
use Rattle.gw_log_words.specs.Fields.{end_from, fields_of}
use Rattle.gw_log_words.proofs.fields.front_of.Given as goal

abbrev pub invariant-loop-at : goal.invariant-loop-at
invariant-loop-at g l =
    let passes = g.F.Form.passes l.fn.form in
    fields_of passes l.fn.line ≡ end_from passes l.begins (drop l.at l.fn.line)
