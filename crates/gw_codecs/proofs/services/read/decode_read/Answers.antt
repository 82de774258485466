use Rattle.std.proofs.Common.{arith}
use Rattle.gw_addr.specs.Reading.{AreOctets}
use Rattle.gw_addr.proofs.Reading.{gives_found, gives_only, gives_fault}
use Rattle.gw_codecs.specs.services.Body.{HasFault}
use Rattle.gw_codecs.specs.services.Read.{read_view, read_body, IsRead}
use Rattle.gw_codecs.proofs.services_lemmas.ReadBody.{read_takes, read_again, read_faults}
use Rattle.gw_codecs.proofs.services.read.decode_read.Goals as goal

pub returns-clause-found : goal.returns-clause-found
returns-clause-found c =
    let octets = c.args.octets.now in
    let fits : AreOctets octets = λ i. omega (arith, c.type_inv.octets i) in
    gives_found read_view _ _ (IsRead octets) c.read.ensures (λ r e. read_takes octets r fits e)

pub returns-clause-only : goal.returns-clause-only
returns-clause-only c =
    let octets = c.args.octets.now in
    let fits : AreOctets octets = λ i. omega (arith, c.type_inv.octets i) in
    λ r is. gives_only read_view _ _ r c.read.ensures (read_again octets r fits is)

pub returns-clause-fault : goal.returns-clause-fault
returns-clause-fault c =
    let octets = c.args.octets.now in
    let fits : AreOctets octets = λ i. omega (arith, c.type_inv.octets i) in
    λ fault. gives_fault read_view _ _ fault (HasFault fault read_body octets) c.read.ensures (read_faults octets fault fits)
