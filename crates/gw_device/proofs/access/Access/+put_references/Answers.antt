use Rattle.std.proofs.Common.{rules}
use Rattle.gw_device.proofs.LimitLemmas.{both_extended}
use Rattle.gw_device.proofs.access.Access.+put_references.Goals as goal

pub returns-clause-octets : goal.returns-clause-octets
returns-clause-octets g t c = λ policy asked.
    let both = both_extended c.put_references.result c.args.out.now c.put_reference.new.out c.put_references.new.out in
    search rules
