use Rattle.std.proofs.Common.{arith}
use Rattle.gw_addr.specs.Reading.{AreOctets}
use Rattle.gw_addr.proofs.Reading.{gives_found, gives_only, gives_fault}
use Rattle.gw_codecs.specs.services.Body.{HasFault}
use Rattle.gw_codecs.specs.services.WhoIs.{who_is_view, who_is_body, IsWhoIs}
use Rattle.gw_codecs.proofs.services_lemmas.WhoIsBody.{who_is_takes, who_is_again, who_is_faults}
use Rattle.gw_codecs.proofs.services.who_is.decode_who_is.Goals as goal

pub returns-clause-found : goal.returns-clause-found
returns-clause-found c =
    let octets = c.args.octets.now in
    let fits : AreOctets octets = λ i. omega (arith, c.type_inv.octets i) in
    gives_found who_is_view _ _ (IsWhoIs octets) c.read.ensures (λ r e. who_is_takes octets r fits e)

pub returns-clause-only : goal.returns-clause-only
returns-clause-only c =
    let octets = c.args.octets.now in
    let fits : AreOctets octets = λ i. omega (arith, c.type_inv.octets i) in
    λ r is. gives_only who_is_view _ _ r c.read.ensures (who_is_again octets r fits is)

pub returns-clause-fault : goal.returns-clause-fault
returns-clause-fault c =
    let octets = c.args.octets.now in
    let fits : AreOctets octets = λ i. omega (arith, c.type_inv.octets i) in
    λ fault. gives_fault who_is_view _ _ fault (HasFault fault who_is_body octets) c.read.ensures (who_is_faults octets fault fits)
