use Rattle.std.proofs.Common.{arith, map}
use Rattle.gw_addr.specs.Reading.{AreOctets}
use Rattle.gw_codecs.specs.services.Multi.{reference_view}
use Rattle.gw_codecs.proofs.services_lemmas.MultiCalls.{read_named}
use Rattle.gw_codecs.proofs.services.multi.read.Goals as goal

pub invariant_of-result : goal.invariant_of-result
invariant_of-result c =
    let octets = c.args.octets.now in
    let fits : AreOctets octets = λ i. omega (arith, c.type_inv.octets i) in
    record { body = ∣ read_named octets (map reference_view c.in-Ok.references.items) fits c.in-Ok.ensures.ok ∣₁ }
