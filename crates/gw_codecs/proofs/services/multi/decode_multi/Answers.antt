use Rattle.std.proofs.Common.{arith}
use Rattle.gw_addr.specs.Reading.{AreOctets}
use Rattle.gw_codecs.proofs.services_lemmas.MultiCalls.{call_found, call_only, call_faults, call_memory, call_told}
use Rattle.gw_codecs.proofs.services.multi.decode_multi.Goals as goal

pub returns-clause-found : goal.returns-clause-found
returns-clause-found c =
    let octets = c.args.octets.now in
    let fits : AreOctets octets = λ i. omega (arith, c.type_inv.octets i) in
    call_found c.read.result octets fits c.read.ensures.ok

pub returns-clause-only : goal.returns-clause-only
returns-clause-only c =
    let octets = c.args.octets.now in
    let fits : AreOctets octets = λ i. omega (arith, c.type_inv.octets i) in
    λ rs is. call_only c.read.result octets rs fits c.read.ensures.ok c.read.ensures.err is

pub returns-clause-fault : goal.returns-clause-fault
returns-clause-fault c =
    let octets = c.args.octets.now in
    let fits : AreOctets octets = λ i. omega (arith, c.type_inv.octets i) in
    λ fault e other. call_faults octets fault fits (c.read.ensures.err fault e other)

pub returns-clause-told : goal.returns-clause-told
returns-clause-told c =
    let octets = c.args.octets.now in
    let fits : AreOctets octets = λ i. omega (arith, c.type_inv.octets i) in
    λ fault is. call_told c.read.result octets fault fits c.read.ensures.ok c.read.ensures.err is

pub returns-clause-memory : goal.returns-clause-memory
returns-clause-memory c =
    let octets = c.args.octets.now in
    let fits : AreOctets octets = λ i. omega (arith, c.type_inv.octets i) in
    λ e. call_memory c.read.result octets fits c.read.ensures.refused e
