use Rattle.std.proofs.Common.{◌≡◌, ◌-◌, Result, Ok, Err, map, sym, ap, subst, ◌∙◌}
use Rattle.std.specs.Result.{IsErrAnd}
use Rattle.std.specs.Prelude.{OnOk}
use Rattle.std.specs.Option.{option_map}
use Rattle.gw_codecs.specs.tags.Object.{object_view}
use Rattle.gw_codecs.specs.declared.services.fault.BodyFault.{BodyFault}
use Rattle.gw_codecs.specs.services.Multi.{reference_view}
use Rattle.gw_codecs.specs.services.MultiReading.{finished, more_at, references_at, behind_these}
use Rattle.gw_codecs.proofs.services_lemmas.MultiBody.{bad_again, many_again, set_again, good_again, shifted, pushed, and_err}
use Rattle.gw_codecs.proofs.services.multi.+references.Goals as goal

pub returns-in_err-reference-clause-err : goal.returns-in_err-reference-clause-err
returns-in_err-reference-clause-err t c = λ fault e other.
    let same = subst (λ (r : Result (Unit {0}) BodyFault). IsErrAnd r (λ f. f ≡ c.in_err-reference.field-0.0)) e c.from_residual.ensures.1 in
    bad_again c.args.left (option_map object_view c.args.current) c.args.octets.now c.in_err-reference.field-0.0 fault c.in_err-reference.ensures (ap Err (sym same))

pub returns-then-left-eq0-clause-err : goal.returns-then-left-eq0-clause-err
returns-then-left-eq0-clause-err t c = λ fault e other.
    many_again c.args.left (option_map object_view c.args.current) c.args.octets.now (reference_view c.in_ok-reference.reference, c.in_ok-reference.behind.now) fault c.if-left-eq0.true c.in_ok-reference.ensures e

pub returns-then-not-is_consistent-clause-err : goal.returns-then-not-is_consistent-clause-err
returns-then-not-is_consistent-clause-err t c = λ fault e other.
    set_again c.args.left (option_map object_view c.args.current) c.args.octets.now (reference_view c.in_ok-reference.reference) c.in_ok-reference.behind.now fault c.if-left-eq0.false c.in_ok-reference.ensures (sym c.is_consistent.ensures ∙ c.if-not-is_consistent.true) e

pub returns-in-Finished-clause-ok : goal.returns-in-Finished-clause-ok
returns-in-Finished-clause-ok t c =
    let old = c.args.out.now.items in
    let r = c.in_ok-reference.reference in
    let read = good_again c.args.left (option_map object_view c.args.current) c.args.octets.now (reference_view r) c.in_ok-reference.behind.now finished c.if-left-eq0.false c.in_ok-reference.ensures (sym c.is_consistent.ensures ∙ c.if-not-is_consistent.false) (sym c.in-Finished.ensures) in
    ap (behind_these (map reference_view old)) read ∙ ap Ok (sym (pushed old c.push.new.self.items r c.in-Ok.ensures.items))

on_ok : {P Q : Type 0} (r : Result (Unit {0}) BodyFault) → (P → Q) → OnOk r P → OnOk r Q
on_ok (Ok x) f p = f p
on_ok (Err e) f p = tt

pub returns-in-More-clause-ok : goal.returns-in-More-clause-ok
returns-in-More-clause-ok t c =
    let old = map reference_view c.args.out.now.items in
    let r = c.in_ok-reference.reference in
    let place = option_map object_view c.in-More.current in
    let rest = c.in-More.rest.now in
    let read = good_again c.args.left (option_map object_view c.args.current) c.args.octets.now (reference_view r) c.in_ok-reference.behind.now (more_at place rest) c.if-left-eq0.false c.in_ok-reference.ensures (sym c.is_consistent.ensures ∙ c.if-not-is_consistent.false) (sym c.in-More.ensures) in
    let others = references_at (c.args.left - 1) place rest in
    let shift = ap (behind_these old) read ∙ shifted old (reference_view r) others ∙ ap (λ b. behind_these b others) (sym (pushed c.args.out.now.items c.push.new.self.items r c.in-Ok.ensures.items)) in
    on_ok c.references.result (λ e. shift ∙ e) c.references.ensures.ok

pub returns-in-More-clause-err : goal.returns-in-More-clause-err
returns-in-More-clause-err t c = λ fault e other.
    let r = c.in_ok-reference.reference in
    let place = option_map object_view c.in-More.current in
    let rest = c.in-More.rest.now in
    let read = good_again c.args.left (option_map object_view c.args.current) c.args.octets.now (reference_view r) c.in_ok-reference.behind.now (more_at place rest) c.if-left-eq0.false c.in_ok-reference.ensures (sym c.is_consistent.ensures ∙ c.if-not-is_consistent.false) (sym c.in-More.ensures) in
    read ∙ and_err (reference_view r) fault (references_at (c.args.left - 1) place rest) (c.references.ensures.err fault e other)
