use Rattle.std.proofs.Common.{◌≡◌, Result, [], ◌∷◌, ◌++◌, Ok, Err, map, refl, sym, ap, subst, ◌∙◌}
use Rattle.std.specs.Result.{IsErrAnd}
use Rattle.std.specs.Option.{option_map}
use Rattle.gw_codecs.specs.tags.Object.{object_view}
use Rattle.gw_codecs.specs.declared.services.fault.BodyFault.{BodyFault}
use Rattle.std.specs.Prelude.{Vec}
use Rattle.std.specs.declared.alloc.Global.{Global}
use Rattle.gw_codecs.specs.declared.services.reference.Reference.{Reference}
use Rattle.gw_codecs.specs.services.Multi.{reference_view}
use Rattle.gw_codecs.specs.services.MultiReading.{behind_these, references_at}
use Rattle.gw_codecs.specs.services.internal.Next.{next_view}
use Rattle.gw_codecs.proofs.services_lemmas.MultiCalls.{first_refused, first_alone, first_and_more}
use Rattle.gw_codecs.proofs.services.multi.list_of.Goals as goal
use Rattle.gw_codecs.proofs.services.multi.list_of.Goals.{in-More+in_ok-references, in_default-next}

pub returns-in_err-first-clause-err : goal.returns-in_err-first-clause-err
returns-in_err-first-clause-err c = λ fault e other.
    let same = subst (λ (r : Result (Vec Reference Global) BodyFault). IsErrAnd r (λ f. f ≡ c.in_err-first.field-0.0)) e c.from_residual.ensures.1 in
    first_refused c.args.octets.now c.in_err-first.field-0.0 c.in_err-first.ensures.step ∙ ap Err (sym same)

pub returns-in_err-references-clause-err : goal.returns-in_err-references-clause-err
returns-in_err-references-clause-err c = λ fault e other.
    let wrong = c.in_err-references.field-0.0 in
    let same : fault ≡ wrong = subst (λ (r : Result (Vec Reference Global) BodyFault). IsErrAnd r (λ f. f ≡ wrong)) e c.from_residual-in_err-references.ensures.1 in
    let r = reference_view c.in_ok-first.first in
    let place = option_map object_view c.in-More.current in
    first_and_more c.args.octets.now r place c.in-More.rest.now (c.in_ok-first.ensures.step ∙ ap (λ n. Ok (r, next_view n)) c.in-More.is)
    ∙ ap (behind_these (r ∷ [])) (c.in_err-references.ensures.err wrong refl (λ memory. other (same ∙ memory))) ∙ ap Err (sym same)

pub returns-clause-ok : goal.returns-clause-ok
returns-clause-ok c =
    let first = c.in_ok-first.first in
    let r = reference_view first in
    let octets = c.args.octets.now in
    let read : map reference_view c.push.new.self.items ≡ r ∷ [] =
    ap (map reference_view) (c.in-Ok-push.ensures.items ∙ ap (λ held. held ++ first ∷ []) c.in-Ok.ensures.empty) in
    elim c.match-next.branch [
      | in-More+in_ok-references w ↦
          let place = option_map object_view w.in-More.current in
          let rest = w.in-More.rest.now in
          first_and_more octets r place rest (c.in_ok-first.ensures.step ∙ ap (λ n. Ok (r, next_view n)) w.in-More.is)
          ∙ ap (λ before. behind_these before (references_at 127 place rest)) (sym read)
          ∙ w.in_ok-references.ensures.ok ∙ ap (λ list. Ok (map reference_view list.items)) (sym w.list-is)
      | in_default-next w ↦
          first_alone octets r (c.in_ok-first.ensures.step ∙ ap (λ n. Ok (r, next_view n)) w.in_default-next.is)
          ∙ ap Ok (sym read) ∙ ap (λ list. Ok (map reference_view list.items)) (sym w.list-is)
    ]
