use Rattle.std.proofs.Common.{arith}
use Rattle.gw_addr.proofs.Reading.{gives_found, gives_only, gives_fault}
use Rattle.gw_frames.specs.declared.npdu.fault.NpduFault.TheVariants as faults
use Rattle.gw_frames.specs.npdu.Npdu.{IsNpdu, IsShort, IsBadVersion, IsBadAddress, view}
use Rattle.gw_frames.proofs.npdu_lemmas.Whole.{npdu_takes, npdu_again, short_is, version_is, address_is}
use Rattle.gw_frames.proofs.npdu.reading.decode_to.Goals as goal

pub returns-clause-found : goal.returns-clause-found
returns-clause-found c =
    let octets = c.args.octets.now in
    gives_found view _ _ (λ f. IsNpdu octets f) c.whole_to.ensures
    (λ f e. npdu_takes octets f (λ i. omega (arith, c.type_inv.octets i)) e)

pub returns-clause-only : goal.returns-clause-only
returns-clause-only c =
    λ f is. gives_only view _ _ f c.whole_to.ensures (npdu_again c.args.octets.now f is)

pub returns-clause-short : goal.returns-clause-short
returns-clause-short c =
    let octets = c.args.octets.now in
    gives_fault view _ _ faults.Short (IsShort octets) c.whole_to.ensures
    (short_is octets (λ i. omega (arith, c.type_inv.octets i)))

pub returns-clause-version : goal.returns-clause-version
returns-clause-version c =
    let octets = c.args.octets.now in
    gives_fault view _ _ faults.Version (IsBadVersion octets) c.whole_to.ensures
    (version_is octets (λ i. omega (arith, c.type_inv.octets i)))

pub returns-clause-address : goal.returns-clause-address
returns-clause-address c =
    let octets = c.args.octets.now in
    gives_fault view _ _ faults.Address (IsBadAddress octets) c.whole_to.ensures
    (address_is octets (λ i. omega (arith, c.type_inv.octets i)))
