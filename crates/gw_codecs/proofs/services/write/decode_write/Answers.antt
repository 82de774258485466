use Rattle.std.proofs.Common.{arith}
use Rattle.gw_addr.specs.Reading.{AreOctets}
use Rattle.gw_addr.proofs.Reading.{gives_found, gives_only, gives_fault}
use Rattle.gw_codecs.specs.services.Body.{HasFault}
use Rattle.gw_codecs.specs.services.Write.{write_view, write_body, IsWrite}
use Rattle.gw_codecs.proofs.services_lemmas.WriteBody.{write_takes, write_again, write_faults}
use Rattle.gw_codecs.proofs.services.write.decode_write.Goals as goal

pub returns-clause-found : goal.returns-clause-found
returns-clause-found c =
    let octets = c.args.octets.now in
    let fits : AreOctets octets = λ i. omega (arith, c.type_inv.octets i) in
    gives_found write_view _ _ (IsWrite octets) c.read.ensures (λ r e. write_takes octets r fits e)

pub returns-clause-only : goal.returns-clause-only
returns-clause-only c =
    let octets = c.args.octets.now in
    let fits : AreOctets octets = λ i. omega (arith, c.type_inv.octets i) in
    λ r is. gives_only write_view _ _ r c.read.ensures (write_again octets r fits is)

pub returns-clause-fault : goal.returns-clause-fault
returns-clause-fault c =
    let octets = c.args.octets.now in
    let fits : AreOctets octets = λ i. omega (arith, c.type_inv.octets i) in
    λ fault. gives_fault write_view _ _ fault (HasFault fault write_body octets) c.read.ensures (write_faults octets fault fits)
