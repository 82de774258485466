use Rattle.std.proofs.Common.{min, ap, ◌∙◌, arith}
use Rattle.gw_script.proofs.PairLemmas.{letter_is, number_is}
use Rattle.gw_script.proofs.line.digit_value.Goals.{then-number-lt10, else-number-lt10}
use Rattle.gw_script.proofs.line.digit_value.Goals as goal

pub returns : goal.returns
returns c =
    let is = c.min.ensures ∙ ap (min c.if-number-lt10.number) c.saturating_add-letter.ensures in
    elim c.if-number-lt10.branch [
      | then-number-lt10 w ↦ number_is c.args.digit c.if-number-lt10.number c.min.result (omega arith) (omega arith) w.number-is is
      | else-number-lt10 w ↦ letter_is c.args.digit c.if-number-lt10.number c.min.result (omega arith) (omega arith) w.number-is is
    ]
