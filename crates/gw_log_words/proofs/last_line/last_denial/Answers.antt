use Rattle.std.proofs.Common.{◌≡◌, ◌∙◌, length, sym, ap, arith}
use Rattle.gw_log_words.specs.LastDenial.{last_denial}
use Rattle.gw_log_words.proofs.LastLemmas.{last_before, last_found, last_of_cut, last_of_none, last_of_one, shorter}
use Rattle.gw_log_words.proofs.last_line.last_denial.Goals as goal

pub returns-in_default : goal.returns-in_default
returns-in_default c = sym (last_of_none c.args.text.now c.in_default.ensures)

pub loop-init : goal.loop-init
loop-init c =
    let parts = c.in-Some.ensures in
    let less = shorter c.args.text.now c.in-Some.lines.now c.in-Some._cut.now parts.0 in
    record {
      same = ap last_denial parts.0 ∙ last_of_cut c.in-Some.lines.now c.in-Some._cut.now parts.1;
      most = omega (arith, less);
    }

pub returns-in_default-rsplit_line : goal.returns-in_default-rsplit_line
returns-in_default-rsplit_line c =
    c.own_fields.ensures
    ∙ sym (c.loop.invariant.same ∙ last_of_one c.loop.lines.now c.in_default-rsplit_line.ensures)

pub returns-in-Some-own_fields : goal.returns-in-Some-own_fields
returns-in-Some-own_fields c =
    let parts = c.in-Some-rsplit_line.ensures in
    let line = c.in-Some-rsplit_line.line.now in
    sym (
    c.loop.invariant.same
    ∙ last_found c.loop.lines.now c.in-Some-rsplit_line.before.now line c.in-Some-own_fields.fields.now parts.0 parts.1 c.in-Some-own_fields.ensures
    )

pub loop-preserved : goal.loop-preserved
loop-preserved c =
    let parts = c.in-Some-rsplit_line.ensures in
    let before = c.in-Some-rsplit_line.before.now in
    let line = c.in-Some-rsplit_line.line.now in
    let less = shorter c.loop.lines.now before line parts.0 in
    record {
      same = c.loop.invariant.same ∙ last_before c.loop.lines.now before line parts.0 parts.1 c.in_default-own_fields.ensures;
      most = omega (arith, c.loop.invariant.most, less);
    }

pub returns : goal.returns
returns c = absurd (omega (arith, c.loop.invariant.most, c.loop-test.false))
