use Rattle.std.proofs.Common.{◌++◌, List, ℕ, take, drop, subst, ap, ◌∙◌}
use Rattle.std.specs.Io.KnownBytes.{prepend_known}
use Rattle.gw_script.proofs.LinesLemmas.{line_found}
use Rattle.gw_policy_drafts.specs.suggestion.Lines.{IsTaken}
use Rattle.gw_policy_drafts.proofs.suggestion.reading.LinesRead.take_next.Goals as goal

pub returns : goal.returns
returns g c = λ text known.
    let front = c.find_line.new.self.unread in
    let len = c.in-Ok-Line.len in
    let span = c.in-Ok-Line.span in
    let found = line_found _ _ _ front text _ len span c.in-Ok-Line.ensures.text known c.in-Ok-Line.field-0-is
    c.in-Ok-Line.ensures.found c.in-Ok-Line.ensures.within in
    record {
      line = take len front;
      rest = drop span front ++ found.rest;
      remains = ap (λ (t : List ℕ). prepend_known t (g.R.OctetSource.left c.find_line.new.source)) c.consume.ensures.unread
          ∙ ap (prepend_known (drop span front)) found.is;
      lines = found.lines;
      taken = subst (λ (l : List ℕ). IsTaken c.args.rules.now l c.args.self.now.seen.given c.take_line.new.seen.given) c.front.ensures
          c.in_ok-take_line.ensures;
    }
