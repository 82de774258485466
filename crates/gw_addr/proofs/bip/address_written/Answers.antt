use Rattle.std.proofs.Common.{◌≡◌, ◌++◌, ◌∷◌, get_or, Some, ap}
use Rattle.std.specs.Fmt.{decimal}
use Rattle.gw_addr.proofs.Addresses.{address_of_parts}
use Rattle.gw_addr.proofs.bip.address_written.Goals as goal

pub returns-clause-only : goal.returns-clause-only
returns-clause-only c = λ a is e.
    let port = decimal a.udp in
    let fourth = decimal (get_or a.ip 3 0) ++ 58 ∷ port in
    let third = decimal (get_or a.ip 2 0) ++ 46 ∷ fourth in
    let second = decimal (get_or a.ip 1 0) ++ 46 ∷ third in
    let p = c.in_ok-a.ensures.only (get_or a.ip 0 0) second (is.octets 0) e in
    let q = c.in_ok-b.ensures.only (get_or a.ip 1 0) third (is.octets 1) p.1 in
    let r = c.in_ok-c.ensures.only (get_or a.ip 2 0) fourth (is.octets 2) q.1 in
    let s = c.in_ok-d.ensures.only (get_or a.ip 3 0) port (is.octets 3) r.1 in
    let t = c.in_ok-udp.ensures.only a.udp is.udp s.1 in
    let udp : c.in_ok-udp.udp ≡ a.udp = cc in
    ap (λ x. Some x) (address_of_parts a is c.in_ok-a.a c.in_ok-b.b c.in_ok-c.c c.in_ok-d.d c.in_ok-udp.udp p.0 q.0 r.0 s.0 udp)
