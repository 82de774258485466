use Rattle.std.proofs.Common.{arith}
use Rattle.gw_addr.specs.Reading.{AreOctets}
use Rattle.gw_addr.proofs.Reading.{gives_found, gives_only, gives_fault}
use Rattle.gw_codecs.specs.services.Body.{HasFault}
use Rattle.gw_codecs.specs.services.IAm.{i_am_view, i_am_body, IsIAm}
use Rattle.gw_codecs.proofs.services_lemmas.IAmBody.{i_am_takes, i_am_again, i_am_faults}
use Rattle.gw_codecs.proofs.services.i_am.decode_i_am.Goals as goal

pub returns-clause-found : goal.returns-clause-found
returns-clause-found c =
    let octets = c.args.octets.now in
    let fits : AreOctets octets = λ i. omega (arith, c.type_inv.octets i) in
    gives_found i_am_view _ _ (IsIAm octets) c.read.ensures (λ r e. i_am_takes octets r fits e)

pub returns-clause-only : goal.returns-clause-only
returns-clause-only c =
    let octets = c.args.octets.now in
    let fits : AreOctets octets = λ i. omega (arith, c.type_inv.octets i) in
    λ r is. gives_only i_am_view _ _ r c.read.ensures (i_am_again octets r fits is)

pub returns-clause-fault : goal.returns-clause-fault
returns-clause-fault c =
    let octets = c.args.octets.now in
    let fits : AreOctets octets = λ i. omega (arith, c.type_inv.octets i) in
    λ fault. gives_fault i_am_view _ _ fault (HasFault fault i_am_body octets) c.read.ensures (i_am_faults octets fault fits)
