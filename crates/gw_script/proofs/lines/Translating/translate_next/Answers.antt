use Rattle.std.proofs.Common.{◌++◌, List, ℕ, inr, refl, take, drop, subst, sym, ap, ◌∙◌}
use Rattle.std.specs.Io.KnownBytes.{Appends, prepend_known}
use Rattle.gw_script.specs.Script.{lines_of}
use Rattle.gw_script.proofs.KnownTexts.{appended}
use Rattle.gw_script.proofs.LinesLemmas.{line_found}
use Rattle.gw_script.proofs.lines.Translating.translate_next.Goals as goal

pub returns-then-not-is_made-clause-outcome : goal.returns-then-not-is_made-clause-outcome
returns-then-not-is_made-clause-outcome g c = λ text before known written.
    let front = c.find_line.new.self.unread in
    let len = c.in-Ok-Line.len in
    let found = line_found _ _ _ front text _ len c.in-Ok-Line.span c.in-Ok-Line.ensures.text known c.in-Ok-Line.field-0-is
    c.in-Ok-Line.ensures.found c.in-Ok-Line.ensures.within in (
      refl,
      record {
        line = take len front;
        others = lines_of (drop c.in-Ok-Line.span front ++ found.rest);
        lines = found.lines;
        untranslated = inr (subst (g.T.LineTranslator.Refuses c.args.translator.now) c.front.ensures (c.in-Ok.ensures.refused c.if-not-is_made.true));
      },
      written,
    )

pub returns-in_default-write_whole-clause-outcome : goal.returns-in_default-write_whole-clause-outcome
returns-in_default-write_whole-clause-outcome g c = λ text before known written.
    let front = c.find_line.new.self.unread in
    let len = c.in-Ok-Line.len in
    let found = line_found _ _ _ front text _ len c.in-Ok-Line.span c.in-Ok-Line.ensures.text known c.in-Ok-Line.field-0-is
    c.in-Ok-Line.ensures.found c.in-Ok-Line.ensures.within in
    let translated = c.translate.new.text.items in
    let cut = c.in_default-write_whole.ensures.front in
    record {
      line = take len front;
      translated = translated;
      others = lines_of (drop c.in-Ok-Line.span front ++ found.rest);
      translates = record {
        most = found.most;
        translated = subst (λ (l : List ℕ). g.T.LineTranslator.Translates c.args.translator.now l translated) c.front.ensures (c.in-Ok.ensures.translated c.if-not-is_made.false);
      };
      lines = found.lines;
      front = cut.0;
      unwritten = cut.1;
      parts = sym c.deref.ensures.value ∙ cut.2;
      appended = appended _ _ before cut.0 written cut.3;
    }

pub returns-clause-outcome : goal.returns-clause-outcome
returns-clause-outcome g c = λ text before known written.
    let front = c.find_line.new.self.unread in
    let len = c.in-Ok-Line.len in
    let span = c.in-Ok-Line.span in
    let found = line_found _ _ _ front text _ len span c.in-Ok-Line.ensures.text known c.in-Ok-Line.field-0-is
    c.in-Ok-Line.ensures.found c.in-Ok-Line.ensures.within in
    let translated = c.translate.new.text.items in
    record {
      line = take len front;
      translated = translated;
      translates = record {
        most = found.most;
        translated = subst (λ (l : List ℕ). g.T.LineTranslator.Translates c.args.translator.now l translated) c.front.ensures (c.in-Ok.ensures.translated c.if-not-is_made.false);
      };
      rest = drop span front ++ found.rest;
      remains = ap (λ (t : List ℕ). prepend_known t (g.R.OctetSource.left c.find_line.new.source)) c.consume.ensures.unread
          ∙ ap (prepend_known (drop span front)) found.is;
      lines = found.lines;
      appended = appended _ _ before translated written
          (subst (Appends (g.W.OctetSink.held c.args.writer.now) (g.W.OctetSink.held c.write_whole.new.sink)) c.deref.ensures.value
          c.in-Ok-write_whole.ensures.ok);
    }

pub returns-clause-shorter : goal.returns-clause-shorter
returns-clause-shorter g c = λ text known done.
    let front = c.find_line.new.self.unread in
    let span = c.in-Ok-Line.span in
    let found = line_found _ _ _ front text _ c.in-Ok-Line.len span c.in-Ok-Line.ensures.text known c.in-Ok-Line.field-0-is
    c.in-Ok-Line.ensures.found c.in-Ok-Line.ensures.within in
    let remains = ap (λ (t : List ℕ). prepend_known t (g.R.OctetSource.left c.find_line.new.source)) c.consume.ensures.unread
    ∙ ap (prepend_known (drop span front)) found.is in (drop span front ++ found.rest, remains, found.fewer)
