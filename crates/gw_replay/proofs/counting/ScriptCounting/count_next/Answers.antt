use Rattle.std.proofs.Common.{◌≡◌, ◌∙◌, ◌++◌, ◌∷◌, [], refl, sym, ap, take, drop, subst, List, ℕ, arith}
use Rattle.std.specs.Io.KnownBytes.{prepend_known}
use Rattle.gw_replay.specs.Decisions.{BeginsWithNone}
use Rattle.gw_replay.specs.Entry.{IsEntry, entry_view}
use Rattle.gw_replay.proofs.CountingLemmas.{no_lines, too_long}
use Rattle.gw_script.proofs.KnownTexts.{if_known, left_known}
use Rattle.gw_script.proofs.LinesLemmas.{line_found}
use Rattle.gw_script.specs.Reader.{BeginsLong, IsNextLine}
use Rattle.gw_script.specs.Script.{lines_of}
use Rattle.gw_script.specs.declared.reader.NextLine.{NextLine}
use Rattle.gw_replay.proofs.counting.ScriptCounting.count_next.Goals as goal

pub returns-in_default-clause-outcome : goal.returns-in_default-clause-outcome
returns-in_default-clause-outcome g c = λ text known.
    let front = c.find_line.new.self.unread in
    let len = c.in-Ok-Line.len in
    let found = line_found _ _ _ front text _ len c.in-Ok-Line.span c.in-Ok-Line.ensures.text known c.in-Ok-Line.field-0-is
    c.in-Ok-Line.ensures.found c.in-Ok-Line.ensures.within in (
      subst (λ (l : List (List ℕ)). BeginsWithNone c.args.announces c.args.ports l) (sym found.lines)
          (λ e is. c.in_default.ensures.only refl e (subst (λ (line : List ℕ). IsEntry c.args.announces c.args.ports line e) (sym c.front-line.ensures) is)),
      refl,
    )

pub returns-in-Ok-Long-clause-outcome : goal.returns-in-Ok-Long-clause-outcome
returns-in-Ok-Long-clause-outcome g c = λ text known.
    let front = c.find_line.new.self.unread in
    let left = left_known _ _ _ front text c.in-Ok-Long.ensures.text known in
    let piece : IsNextLine front left.rest c.in-Ok-Long.field-0 = if_known
    (λ (r : List ℕ). IsNextLine front r c.in-Ok-Long.field-0) _ left.rest left.is c.in-Ok-Long.ensures.found in
    let long : BeginsLong (front ++ left.rest) = subst (λ (p : NextLine). IsNextLine front left.rest p) c.in-Ok-Long.field-0-is piece in (
      subst (λ (t : List ℕ). BeginsWithNone c.args.announces c.args.ports (lines_of t)) (sym left.text_is) (too_long c.args.announces c.args.ports (front ++ left.rest) long),
      refl,
    )

pub returns-in-Ok-End-clause-outcome : goal.returns-in-Ok-End-clause-outcome
returns-in-Ok-End-clause-outcome g c = λ text known.
    let front = c.find_line.new.self.unread in
    let left = left_known _ _ _ front text c.in-Ok-End.ensures.text known in
    let piece : IsNextLine front left.rest c.in-Ok-End.field-0 = if_known
    (λ (r : List ℕ). IsNextLine front r c.in-Ok-End.field-0) _ left.rest left.is c.in-Ok-End.ensures.found in
    let none : lines_of (front ++ left.rest) ≡ [] = subst (λ (p : NextLine). IsNextLine front left.rest p) c.in-Ok-End.field-0-is piece in (
      subst (λ (t : List ℕ). BeginsWithNone c.args.announces c.args.ports (lines_of t)) (sym left.text_is) (no_lines c.args.announces c.args.ports (front ++ left.rest) none),
      refl,
    )

pub returns-clause-outcome : goal.returns-clause-outcome
returns-clause-outcome g c = λ text known.
    let front = c.find_line.new.self.unread in
    let len = c.in-Ok-Line.len in
    let span = c.in-Ok-Line.span in
    let found = line_found _ _ _ front text _ len span c.in-Ok-Line.ensures.text known c.in-Ok-Line.field-0-is
    c.in-Ok-Line.ensures.found c.in-Ok-Line.ensures.within in record {
      line = take len front;
      entry = entry_view c.in-Some.entry;
      writes = subst (λ (line : List ℕ). IsEntry c.args.announces c.args.ports line (entry_view c.in-Some.entry)) c.front-line.ensures
          c.in-Some.ensures.found;
      rest = drop span front ++ found.rest;
      remains = ap (λ (t : List ℕ). prepend_known t (g.R.OctetSource.left c.find_line.new.source)) c.consume.ensures.unread
          ∙ ap (prepend_known (drop span front)) found.is;
      lines = found.lines;
      moves = c.in-Ok.ensures.moved;
      counted = c.in-Ok.ensures.counted;
    }
