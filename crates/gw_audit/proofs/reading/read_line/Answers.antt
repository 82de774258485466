use Rattle.gw_audit.specs.Entry.{IsLineOf, IsShowable, denial_of, shown_ask}
use Rattle.gw_audit.specs.Laws.{AreShownAlike}
use Rattle.gw_audit.specs.internal.Reading.{denial_of_parts, line_in}
use Rattle.gw_audit.proofs.TranslatingLemmas.{gives_found, gives_only, line_again, line_takes, shown_alike}
use Rattle.gw_audit.proofs.reading.read_line.Goals as goal

pub returns-clause-found : goal.returns-clause-found
returns-clause-found c =
    let line = c.args.line.now in
    gives_found denial_of c.line_in.result (line_in line) (IsLineOf line) c.line_in.ensures (λ d e. (line_takes line d e).line)

pub returns-clause-is : goal.returns-clause-is
returns-clause-is c =
    let line = c.args.line.now in
    gives_found denial_of c.line_in.result (line_in line) IsShowable c.line_in.ensures (λ d e. (line_takes line d e).is)

pub returns-clause-only : goal.returns-clause-only
returns-clause-only c = λ d is e.
    let line = c.args.line.now in
    gives_only denial_of c.line_in.result (line_in line) (denial_of_parts d.number d.tick (shown_ask d) d.rule) (AreShownAlike d) c.line_in.ensures
    (line_again line d is e) (shown_alike d)
