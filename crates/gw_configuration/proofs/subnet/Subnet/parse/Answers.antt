use Rattle.std.proofs.Common.{rules, ◌≡◌, ◌∙◌, ℕ, Some, None, ap, arith, refl}
use Rattle.gw_addr.specs.declared.mask.Mask.{Mask}
use Rattle.gw_configuration.proofs.Prefixes.{is_network_mask, network_mask, subnet_again}
use Rattle.gw_configuration.proofs.subnet.Subnet.parse.Goals as goal

pub returns-in_err-ip-clause-only : goal.returns-in_err-ip-clause-only
returns-in_err-ip-clause-only c = λ s is e.
    let read : c.divided.result ≡ Some (network_mask s, s.prefix) = c.divided.ensures.only (network_mask s) s.prefix (is_network_mask s) (omega (arith, is.short)) e in
    let none : c.divided.result ≡ None = search rules in
    absurd (cc (read, none))

pub returns-clause-only : goal.returns-clause-only
returns-clause-only c = λ s is e.
    let read : c.divided.result ≡ Some (network_mask s, s.prefix) = c.divided.ensures.only (network_mask s) s.prefix (is_network_mask s) (omega (arith, is.short)) e in
    let some : c.divided.result ≡ Some (c.in_ok-ip.ip, c.in_ok-ip.prefix) = search rules in
    let both : (c.in_ok-ip.ip, c.in_ok-ip.prefix) ≡ (network_mask s, s.prefix) = cc (read, some) in
    let first : c.in_ok-ip.ip ≡ network_mask s = ap (λ (p : Mask × ℕ). p.0) both in
    let second : c.in_ok-ip.prefix ≡ s.prefix = ap (λ (p : Mask × ℕ). p.1) both in
    c.new.ensures ∙ rw (first, second) refl ∙ subnet_again s is
