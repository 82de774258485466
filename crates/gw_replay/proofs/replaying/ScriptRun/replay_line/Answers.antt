use Rattle.std.proofs.Common.{◌≡◌, [], ◌++◌, ◌∷◌, List, ℕ, length, take, drop, arith, refl, subst, sym, ap, ◌∙◌}
use Rattle.std.proofs.lemmas.Grind.{common_steps}
use Rattle.std.specs.Io.KnownBytes.{prepend_known}
use Rattle.std.proofs.lemmas.List.{length-append, length-drop}
use Rattle.gw_script.specs.declared.reader.NextLine.{NextLine}
use Rattle.gw_script.specs.Reader.{IsNextLine, IsWithin}
use Rattle.gw_script.specs.Script.{lines_of}
use Rattle.gw_replay.specs.Entry.{Comes, entry_view}
use Rattle.gw_replay.specs.internal.LineOutcome.{LineOutcome}
use Rattle.gw_replay.proofs.LineOutcomeLemmas.{same_flaw, same_line, not_taken}
use Rattle.gw_script.proofs.Passing.{passes_on}
use Rattle.gw_script.proofs.KnownTexts.{left_known, if_known, appended}
use Rattle.gw_replay.proofs.replaying.ScriptRun.replay_line.Goals as goal

pub returns-in_default-clause-outcome : goal.returns-in_default-clause-outcome
returns-in_default-clause-outcome g c = λ text before known written.
    let front = c.find_line.new.self.unread in
    let len = c.in-Ok-Line.len in
    let span = c.in-Ok-Line.span in
    let left = left_known _ _ _ front text c.in-Ok-Line.ensures.text known in
    let piece : IsNextLine front left.rest c.in-Ok-Line.field-0 = if_known
    (λ (r : List ℕ). IsNextLine front r c.in-Ok-Line.field-0) _ left.rest left.is c.in-Ok-Line.ensures.found in
    let lines : lines_of (front ++ left.rest) ≡ take len front ∷ lines_of (drop span front ++ left.rest) = subst
    (λ (p : NextLine). IsNextLine front left.rest p) c.in-Ok-Line.field-0-is piece in (
      refl,
      record {
        line = take len front;
        others = lines_of (drop span front ++ left.rest);
        lines = ap lines_of left.text_is
            ∙ lines;
        no_entry = λ e is. c.in_default.ensures.only refl e
            (same_line _ _ _ _ _ _ e refl c.ports-ports.ensures.count c.front-line.ensures is);
      },
      written,
    )

pub returns-in_default-clause-flaw : goal.returns-in_default-clause-flaw
returns-in_default-clause-flaw g c = λ n e text known.
    let front = c.find_line.new.self.unread in
    let len = c.in-Ok-Line.len in
    let span = c.in-Ok-Line.span in
    let left = left_known _ _ _ front text c.in-Ok-Line.ensures.text known in
    let piece : IsNextLine front left.rest c.in-Ok-Line.field-0 = if_known
    (λ (r : List ℕ). IsNextLine front r c.in-Ok-Line.field-0) _ left.rest left.is c.in-Ok-Line.ensures.found in
    let lines : lines_of (front ++ left.rest) ≡ take len front ∷ lines_of (drop span front ++ left.rest) = subst
    (λ (p : NextLine). IsNextLine front left.rest p) c.in-Ok-Line.field-0-is piece in record {
      line = take len front;
      others = lines_of (drop span front ++ left.rest);
      lines = ap lines_of left.text_is ∙ lines;
      is = same_flaw _ _ _ _ _ c.ports-ports.ensures.count c.front-line.ensures c.flaw_of-self.ensures;
    }

pub returns-in_err-make_entry_text-clause-outcome : goal.returns-in_err-make_entry_text-clause-outcome
returns-in_err-make_entry_text-clause-outcome g c = λ text before known written.
    let front = c.find_line.new.self.unread in
    let len = c.in-Ok-Line.len in
    let span = c.in-Ok-Line.span in
    let left = left_known _ _ _ front text c.in-Ok-Line.ensures.text known in
    let piece : IsNextLine front left.rest c.in-Ok-Line.field-0 = if_known
    (λ (r : List ℕ). IsNextLine front r c.in-Ok-Line.field-0) _ left.rest left.is c.in-Ok-Line.ensures.found in
    let lines : lines_of (front ++ left.rest) ≡ take len front ∷ lines_of (drop span front ++ left.rest) = subst
    (λ (p : NextLine). IsNextLine front left.rest p) c.in-Ok-Line.field-0-is piece in
    let entry = entry_view c.in-Some.entry in
    let moved = c.make_entry_text.new.gateway in
    let unread = prepend_known front (g.R.OctetSource.left c.find_line.new.source) in
    let after = g.W.OctetSink.held c.args.writer.now in
    passes_on (LineOutcome g.T.EventText.wording c.args.number c.args.self.now.gateway moved text unread before after)
    c.in_err-make_entry_text.field-0.0 c.from_residual.result c.from_residual.ensures
    (not_taken g.T.EventText.wording c.args.number c.args.self.now.gateway moved text unread before after
    c.in_err-make_entry_text.field-0.0 _ _ c.in_err-make_entry_text.ensures.fault
    (λ wants. record {
      line = take len front;
      entry = entry;
      others = lines_of (drop span front ++ left.rest);
      writes = same_line _ _ _ _ _ _ entry refl (sym c.ports-ports.ensures.count) (sym c.front-line.ensures)
          c.in-Some.ensures.found;
      lines = ap lines_of left.text_is ∙ lines;
      wants = wants;
    })
    (λ passes. record {
      line = take len front;
      entry = entry;
      others = lines_of (drop span front ++ left.rest);
      writes = same_line _ _ _ _ _ _ entry refl (sym c.ports-ports.ensures.count) (sym c.front-line.ensures)
          c.in-Some.ensures.found;
      lines = ap lines_of left.text_is ∙ lines;
      passes = passes;
    }) written)

pub returns-in_default-write_whole-clause-outcome : goal.returns-in_default-write_whole-clause-outcome
returns-in_default-write_whole-clause-outcome g c = λ text before known written.
    let front = c.find_line.new.self.unread in
    let len = c.in-Ok-Line.len in
    let span = c.in-Ok-Line.span in
    let left = left_known _ _ _ front text c.in-Ok-Line.ensures.text known in
    let piece : IsNextLine front left.rest c.in-Ok-Line.field-0 = if_known
    (λ (r : List ℕ). IsNextLine front r c.in-Ok-Line.field-0) _ left.rest left.is c.in-Ok-Line.ensures.found in
    let lines : lines_of (front ++ left.rest) ≡ take len front ∷ lines_of (drop span front ++ left.rest) = subst
    (λ (p : NextLine). IsNextLine front left.rest p) c.in-Ok-Line.field-0-is piece in
    let entry = entry_view c.in-Some.entry in
    let cut = c.in_default-write_whole.ensures.front in
    record {
      line = take len front;
      entry = entry;
      others = lines_of (drop span front ++ left.rest);
      writes = same_line _ _ _ _ _ _ entry refl (sym c.ports-ports.ensures.count) (sym c.front-line.ensures)
          c.in-Some.ensures.found;
      lines = ap lines_of left.text_is ∙ lines;
      front = cut.0;
      unwritten = cut.1;
      parts = sym {A = List ℕ} c.in_ok-make_entry_text.ensures.text ∙ sym {A = List ℕ} c.deref.ensures.value ∙ cut.2;
      appended = appended _ _ before cut.0 written cut.3;
    }

pub returns-clause-shorter : goal.returns-clause-shorter
returns-clause-shorter g c = λ text known done.
    let front = c.find_line.new.self.unread in
    let len = c.in-Ok-Line.len in
    let span = c.in-Ok-Line.span in
    let left = left_known _ _ _ front text c.in-Ok-Line.ensures.text known in
    let within : IsWithin front c.in-Ok-Line.field-0 = c.in-Ok-Line.ensures.within in
    let bounds = subst (λ (p : NextLine). IsWithin front p) c.in-Ok-Line.field-0-is within in
    let after = drop span front ++ left.rest in
    let remains = ap (λ (t : List ℕ). prepend_known t (g.R.OctetSource.left c.find_line.new.source)) c.consume.ensures.unread
    ∙ ap (prepend_known (drop span front)) left.is in (
      after,
      remains,
      omega (
        arith,
        bounds,
        ap length left.text_is,
        length-append front left.rest,
        length-append
            (drop span front) left.rest,
        length-drop span front,
      ),
    )

pub returns-in-Ok-Long-clause-outcome : goal.returns-in-Ok-Long-clause-outcome
returns-in-Ok-Long-clause-outcome g c = grind (arith, common_steps)

pub returns-in-Ok-End-clause-outcome : goal.returns-in-Ok-End-clause-outcome
returns-in-Ok-End-clause-outcome g c = λ text before known written.
    let front = c.find_line.new.self.unread in
    let left = left_known _ _ _ front text c.in-Ok-End.ensures.text known in
    let piece : IsNextLine front left.rest c.in-Ok-End.field-0 = if_known
    (λ (r : List ℕ). IsNextLine front r c.in-Ok-End.field-0) _ left.rest left.is c.in-Ok-End.ensures.found in
    let none : lines_of (front ++ left.rest) ≡ [] = subst (λ (p : NextLine). IsNextLine front left.rest p) c.in-Ok-End.field-0-is piece in
    (ap lines_of left.text_is ∙ none, written)

pub returns-in-Err-clause-outcome : goal.returns-in-Err-clause-outcome
returns-in-Err-clause-outcome g c = λ text before known written. written

pub returns-in-Ok-Long-clause-flaw : goal.returns-in-Ok-Long-clause-flaw
returns-in-Ok-Long-clause-flaw g c = grind (arith, common_steps)

pub flaw_of-self-requires-clause-no_event : goal.flaw_of-self-requires-clause-no_event
flaw_of-self-requires-clause-no_event g c = λ e is. c.in_default.ensures.only refl (Comes e) is
