use Rattle.std.proofs.Common.{◌∙◌, ◌++◌, ℕ, List, ap, map}
use Rattle.gw_codecs.specs.apdu.Answers.{complex_ack}
use Rattle.gw_codecs.specs.services.Choices.{read_property_multiple}
use Rattle.gw_codecs.specs.services.Multi.{reference_view}
use Rattle.gw_device.specs.Multi.{multi_part}
use Rattle.gw_device.proofs.LimitLemmas.{both_fitted}
use Rattle.gw_device.proofs.access.Access.multi_apdu.Goals as goal

pub returns-clause-apdu : goal.returns-clause-apdu
returns-clause-apdu g c = λ policy asked.
    let part = multi_part policy c.args.self.now.objects.now c.args.self.now.context.now (map reference_view c.args.references.now) in
    let head = complex_ack c.args.header.now.invoke read_property_multiple in
    ◌∙◌ {A = List ℕ} c.in_ok-octets-2.ensures.octets
    (both_fitted c.most_octets.result c.args.header.now c.args.self.now.context.now c.new-octets.result c.put_references.new.out head part.octets
    c.most_octets.ensures
    (c.new-octets.ensures head (◌∙◌ {A = List ℕ} c.in_ok-write_complex.ensures.ok (ap (λ (front : List ℕ). front ++ head) c.in_ok-octets.ensures)))
    (c.in_ok-put_references.ensures.octets policy asked))
