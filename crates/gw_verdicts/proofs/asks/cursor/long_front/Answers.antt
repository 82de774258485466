use Rattle.std.proofs.Common.{[], subst}
use Rattle.gw_script.specs.Reader.{IsNextLine}
use Rattle.gw_verdicts.proofs.asks_lemmas.StepLemmas.{long_length}
use Rattle.gw_verdicts.proofs.asks.cursor.long_front.Goals as goal

pub returns-in-Ok-Long-clause-within : goal.returns-in-Ok-Long-clause-within
returns-in-Ok-Long-clause-within c =
    let unread = c.find_line.new.self.unread in
    long_length unread (subst (IsNextLine unread []) c.in-Ok-Long.field-0-is c.in-Ok-Long.ensures.found)
