use Rattle.std.proofs.Common.{◌++◌, inr, refl, sym, take, drop, subst, Err, List, ℕ}
use Rattle.std.specs.Io.KnownBytes.{prepend_known}
use Rattle.gw_audit.specs.Entry.{ShowsAsk}
use Rattle.gw_script.specs.Script.{lines_of}
use Rattle.gw_script.specs.declared.lines.LinesFault.{LinesFault}
use Rattle.gw_script.proofs.LinesLemmas.{line_found}
use Rattle.gw_script.proofs.Passing.{passes_on}
use Rattle.gw_decisions.specs.tally.Counting.{IsNext}
use Rattle.gw_decisions.proofs.tally_lemmas.CountingLemmas.{none_is_none}
use Rattle.gw_decisions.proofs.tally.counting.AskCounting.count_next.Goals as goal

pub returns-in_default-clause-outcome : goal.returns-in_default-clause-outcome
returns-in_default-clause-outcome g c = λ text known.
    let front = c.find_line.new.self.unread in
    let len = c.in-Ok-Line.len in
    let found = line_found _ _ _ front text _ len c.in-Ok-Line.span c.in-Ok-Line.ensures.text known c.in-Ok-Line.field-0-is
    c.in-Ok-Line.ensures.found c.in-Ok-Line.ensures.within in (
      refl,
      record {
        line = take len front;
        others = lines_of (drop c.in-Ok-Line.span front ++ found.rest);
        lines = found.lines;
        untranslated = inr (λ shown translates. none_is_none shown
            (c.in_default.ensures.only shown (subst (λ (line : List ℕ). ShowsAsk line shown) (sym c.front.ensures) translates)));
      },
    )

pub returns-in_err-add-clause-outcome : goal.returns-in_err-add-clause-outcome
returns-in_err-add-clause-outcome g c = λ text known.
    let leaves = prepend_known c.find_line.new.self.unread (g.R.OctetSource.left c.find_line.new.source) in
    let next = IsNext c.args.rules.now c.args.number text leaves c.args.self.now.tally c.add.new.self in
    passes_on next c.in_err-add.field-0.0 c.from_residual.result c.from_residual.ensures
    (subst (λ (f : LinesFault). next (Err f)) (sym c.in_err-add.ensures.fault) tt)
