use Rattle.std.proofs.Common.{◌∙◌, sym, ap, Ok}
use Rattle.std.specs.Option.{option_map}
use Rattle.gw_codecs.specs.services.Multi.{reference_view}
use Rattle.gw_codecs.specs.services.internal.Next.{next_view}
use Rattle.gw_codecs.specs.declared.services.next.Next.{Next}
use Rattle.gw_codecs.specs.tags.Object.{object_view}
use Rattle.gw_relay.proofs.NamedLemmas.{read_last, read_more, unread}
use Rattle.gw_relay.proofs.named.+are_references.Goals as goal

pub returns-in-Err : goal.returns-in-Err
returns-in-Err t c =
    sym (unread c.args.left (option_map object_view c.args.current) c.args.octets.now c.in-Err.field-0 c.in-Err.ensures.step)

pub returns-in-Ok-default-Finished : goal.returns-in-Ok-default-Finished
returns-in-Ok-default-Finished t c =
    let r = reference_view c.in-Ok-default-Finished.field-0-0 in
    let step = c.in-Ok-default-Finished.ensures.step ∙ ap (λ (next : Next). Ok (r, next_view next)) c.in-Ok-default-Finished.field-0-1-is in
    sym (read_last c.args.left (option_map object_view c.args.current) c.args.octets.now r step)

pub returns-in-Ok-default-More : goal.returns-in-Ok-default-More
returns-in-Ok-default-More t c =
    let r = reference_view c.in-Ok-default-More.field-0-0 in
    let place = option_map object_view c.in-Ok-default-More.current in
    let step = c.in-Ok-default-More.ensures.step ∙ ap (λ (next : Next). Ok (r, next_view next)) c.in-Ok-default-More.field-0-1-is in
    c.are_references.ensures
    ∙ sym (read_more c.args.left (option_map object_view c.args.current) place c.args.octets.now c.in-Ok-default-More.rest.now r step)
