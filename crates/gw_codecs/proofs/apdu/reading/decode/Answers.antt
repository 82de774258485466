use Rattle.gw_addr.proofs.Reading.{gives_found, gives_only, gives_fault}
use Rattle.gw_codecs.specs.declared.apdu.fault.ApduFault.TheVariants as faults
use Rattle.gw_codecs.specs.apdu.Apdu.{IsApdu, IsShort, HasUnknownType, view}
use Rattle.gw_codecs.proofs.apdu_lemmas.Headers.{apdu_takes, apdu_again, short_is, kind_is}
use Rattle.gw_codecs.proofs.apdu.reading.decode.Goals as goal

pub returns-clause-found : goal.returns-clause-found
returns-clause-found c =
    let octets = c.args.octets.now in
    gives_found view _ _ (IsApdu octets) c.whole.ensures (apdu_takes octets)

pub returns-clause-only : goal.returns-clause-only
returns-clause-only c =
    λ f is. gives_only view _ _ f c.whole.ensures (apdu_again c.args.octets.now f is)

pub returns-clause-short : goal.returns-clause-short
returns-clause-short c =
    let octets = c.args.octets.now in
    gives_fault view _ _ faults.Short (IsShort octets) c.whole.ensures (short_is octets)

pub returns-clause-kind : goal.returns-clause-kind
returns-clause-kind c =
    let octets = c.args.octets.now in
    gives_fault view _ _ faults.Kind (HasUnknownType octets) c.whole.ensures (kind_is octets)
