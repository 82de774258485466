use Rattle.std.proofs.Common.{◌≡◌, ◌∙◌, false, [], Some, length, drop, sym, ap, arith}
use Rattle.std.specs.Prelude.{◌&&◌}
use Rattle.std.proofs.lemmas.Bool.{and_left, and_right}
use Rattle.std.proofs.lemmas.List.{drop_all}
use Rattle.gw_log_words.proofs.FieldsLemmas.{end_empty, end_found, end_further, end_none, rest_passes}
use Rattle.gw_log_words.proofs.fields.front_of.Goals.{else-begins-via-then-begins+else-passes, else-begins-via-else-begins, else-begins-2-via-then-begins-2+else-passes-2, else-begins-2-via-else-begins-2}
use Rattle.gw_log_words.proofs.fields.front_of.Goals as goal

pub returns-then-passes-clause-fields : goal.returns-then-passes-clause-fields
returns-then-passes-clause-fields g c =
    let passes = g.F.Form.passes c.args.form.now in
    sym (
    c.loop-at.invariant
    ∙ end_found passes c.loop-at.begins (drop c.loop-at.at c.args.line.now) c.if-begins.true (sym (c.passes.ensures ∙ rest_passes passes c.args.line.now c.loop-at.at) ∙ c.if-passes.true)
    )

pub loop-at-preserved : goal.loop-at-preserved
loop-at-preserved g c =
    let passes = g.F.Form.passes c.args.form.now in
    let rest = drop c.loop-at.at c.args.line.now in
    let fails : (c.loop-at.begins && passes rest) ≡ false = elim c.else-begins.branch [
      | else-begins-via-then-begins+else-passes w ↦ and_right c.loop-at.begins (passes rest) (sym (w.passes.ensures ∙ rest_passes passes c.args.line.now c.loop-at.at) ∙ w.if-passes.false)
      | else-begins-via-else-begins w ↦ and_left c.loop-at.begins (passes rest) w.if-begins.false
    ] in
    c.loop-at.invariant ∙ end_further passes c.args.line.now c.loop-at.at c.loop-at.begins c.loop-at-test.true fails

pub returns-then-passes-2-clause-fields : goal.returns-then-passes-2-clause-fields
returns-then-passes-2-clause-fields g c =
    let passes = g.F.Form.passes c.args.form.now in
    let line = c.args.line.now in
    let none = drop_all c.loop-at.at line c.loop-at-test.false in
    ap Some (drop_all (length line) line (omega arith))
    ∙ sym (c.loop-at.invariant ∙ end_empty passes c.loop-at.begins (drop c.loop-at.at line) none c.if-begins-2.true (sym c.passes-then-begins-2.ensures ∙ c.if-passes-2.true))

pub returns-else-begins-2-clause-fields : goal.returns-else-begins-2-clause-fields
returns-else-begins-2-clause-fields g c =
    let passes = g.F.Form.passes c.args.form.now in
    let line = c.args.line.now in
    let none = drop_all c.loop-at.at line c.loop-at-test.false in
    let fails : (c.loop-at.begins && passes []) ≡ false = elim c.else-begins-2.branch [
      | else-begins-2-via-then-begins-2+else-passes-2 w ↦ and_right c.loop-at.begins (passes []) (sym w.passes-then-begins-2.ensures ∙ w.if-passes-2.false)
      | else-begins-2-via-else-begins-2 w ↦ and_left c.loop-at.begins (passes []) w.if-begins-2.false
    ] in
    sym (c.loop-at.invariant ∙ end_none passes c.loop-at.begins (drop c.loop-at.at line) none fails)
