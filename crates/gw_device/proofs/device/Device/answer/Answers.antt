use Rattle.std.proofs.Common.{◌≡◌, [], sym, subst}
use Rattle.gw_objects.specs.Objects.{Database}
use Rattle.gw_device.specs.declared.context.Context.{Context}
use Rattle.gw_device.specs.Device.{apdu_response, header_response, unconfirmed_response}
use Rattle.gw_device.proofs.device.Device.answer.Goals as goal

pub returns-in-UnconfirmedRequest-clause-silent : goal.returns-in-UnconfirmedRequest-clause-silent
returns-in-UnconfirmedRequest-clause-silent g c = λ policy asks answer.
    let d = c.args.self.now in
    let known = c.args.context.now in
    let access = c.access-access.result in
    let service = c.in-UnconfirmedRequest.service in
    let rest = c.in-Ok.apdu.rest.now in
    let due : (unconfirmed_response policy d known service rest).asks ≡ [] =
    subst (λ by. (header_response policy d known by rest).asks ≡ []) c.in-UnconfirmedRequest.is
    (subst (λ read. (apdu_response policy d known read).asks ≡ []) c.in-Ok.ensures.exact asks) in
    c.unconfirmed.ensures.silent policy
    (subst (λ (context : Context). (unconfirmed_response policy access.objects.now context service rest).asks ≡ []) (sym c.access-access.ensures.context)
    (subst (λ (objects : Database). (unconfirmed_response policy objects known service rest).asks ≡ []) (sym c.access-access.ensures.objects) due))
