use Rattle.std.proofs.Common.{arith}
use Rattle.gw_addr.specs.Reading.{AreOctets}
use Rattle.gw_addr.proofs.Reading.{gives_found, gives_only, gives_fault}
use Rattle.gw_codecs.specs.services.Body.{HasFault}
use Rattle.gw_codecs.specs.services.WhoHas.{who_has_view, who_has_body, IsWhoHas}
use Rattle.gw_codecs.proofs.services_lemmas.WhoHasBody.{who_has_takes, who_has_again, who_has_faults}
use Rattle.gw_codecs.proofs.services.who_has.decode_who_has.Goals as goal

pub returns-clause-found : goal.returns-clause-found
returns-clause-found c =
    let octets = c.args.octets.now in
    let fits : AreOctets octets = λ i. omega (arith, c.type_inv.octets i) in
    gives_found who_has_view _ _ (IsWhoHas octets) c.read.ensures (λ r e. who_has_takes octets r fits e)

pub returns-clause-only : goal.returns-clause-only
returns-clause-only c =
    let octets = c.args.octets.now in
    let fits : AreOctets octets = λ i. omega (arith, c.type_inv.octets i) in
    λ r is. gives_only who_has_view _ _ r c.read.ensures (who_has_again octets r fits is)

pub returns-clause-fault : goal.returns-clause-fault
returns-clause-fault c =
    let octets = c.args.octets.now in
    let fits : AreOctets octets = λ i. omega (arith, c.type_inv.octets i) in
    λ fault. gives_fault who_has_view _ _ fault (HasFault fault who_has_body octets) c.read.ensures (who_has_faults octets fault fits)
