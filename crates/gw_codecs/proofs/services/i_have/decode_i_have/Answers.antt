use Rattle.std.proofs.Common.{arith}
use Rattle.gw_addr.specs.Reading.{AreOctets}
use Rattle.gw_addr.proofs.Reading.{gives_found, gives_only, gives_fault}
use Rattle.gw_codecs.specs.services.Body.{HasFault}
use Rattle.gw_codecs.specs.services.IHave.{i_have_view, i_have_body, IsIHave}
use Rattle.gw_codecs.proofs.services_lemmas.IHaveBody.{i_have_takes, i_have_again, i_have_faults}
use Rattle.gw_codecs.proofs.services.i_have.decode_i_have.Goals as goal

pub returns-clause-found : goal.returns-clause-found
returns-clause-found c =
    let octets = c.args.octets.now in
    let fits : AreOctets octets = λ i. omega (arith, c.type_inv.octets i) in
    gives_found i_have_view _ _ (IsIHave octets) c.read.ensures (λ r e. i_have_takes octets r fits e)

pub returns-clause-only : goal.returns-clause-only
returns-clause-only c =
    let octets = c.args.octets.now in
    let fits : AreOctets octets = λ i. omega (arith, c.type_inv.octets i) in
    λ r is. gives_only i_have_view _ _ r c.read.ensures (i_have_again octets r fits is)

pub returns-clause-fault : goal.returns-clause-fault
returns-clause-fault c =
    let octets = c.args.octets.now in
    let fits : AreOctets octets = λ i. omega (arith, c.type_inv.octets i) in
    λ fault. gives_fault i_have_view _ _ fault (HasFault fault i_have_body octets) c.read.ensures (i_have_faults octets fault fits)
