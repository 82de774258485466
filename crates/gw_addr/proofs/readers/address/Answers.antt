use Rattle.std.proofs.Common.{◌≡◌, ◌≤◌, length, take, drop, refl, sym, ap, ◌∙◌, arith}
use Rattle.std.proofs.lemmas.Bool.{le-ltb}
use Rattle.gw_addr.specs.Address.{address_in}
use Rattle.gw_addr.proofs.Addresses.{address_in-take}
use Rattle.gw_addr.proofs.readers.address.Goals as goal

pub returns : goal.returns
returns g c =
    let octets = c.args.octets.now in
    let cases = rw c.in_ok-first.ensures.ok_part at c.split_first_chunk.ensures.cases in
    let long : 6 ≤ length octets = omega (arith, cases) in
    let first : c.in_ok-first.first.now ≡ take 6 octets = cases.0 in
    let rest : c.in_ok-first.rest.now ≡ drop 6 octets = cases.1 in
    let made : address_in octets ≡ c.from_octets.result = sym (c.from_octets.ensures ∙ ap address_in first ∙ address_in-take octets) in
    rw (le-ltb (length octets) 6 long, made, rest) refl
