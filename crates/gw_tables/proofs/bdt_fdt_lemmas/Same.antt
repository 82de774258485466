-- Two addresses are one exactly if they are compared so.
use Rattle.std.proofs.Common.{◌≡◌, ℕ, true, ◌&&◌, List, nat_eq, sym, ap, ap₂}
use Rattle.std.proofs.lemmas.Bool.{and_parts, and_from, eqb-true}
use Rattle.std.proofs.lemmas.Cmp.{nat_list_eq_equiv}
use Rattle.std.specs.Cmp.{IsEquivalence, nat_eq_equiv}
use Rattle.std.specs.Cmp.Lexicographic.{pointwise, same_text}
use Rattle.gw_addr.specs.declared.bip.BipAddr.{BipAddr}
use Rattle.gw_tables.specs.bdt_fdt.Registrations.{same}

abbrev address : List ℕ → ℕ → BipAddr
address ip udp = record { ip = ip; udp = udp }

pub own : (a : BipAddr) → same a a ≡ true
own a = and_from (pointwise nat_eq a.ip a.ip) (nat_eq a.udp a.udp) (nat_list_eq_equiv.refl a.ip) (nat_eq_equiv.refl a.udp)

pub equal_of : (a b : BipAddr) → same a b ≡ true → a ≡ b
equal_of a b e =
    let parts = and_parts (pointwise nat_eq a.ip b.ip) (nat_eq a.udp b.udp) e in
    ap₂ address (same_text a.ip b.ip (sym parts.0)) (eqb-true a.udp b.udp parts.1)

pub flipped : (a b : BipAddr) → same a b ≡ same b a
flipped a b = λ j. nat_list_eq_equiv.symm a.ip b.ip j && nat_eq_equiv.symm a.udp b.udp j

pub same_equiv : IsEquivalence same
same_equiv = record { refl = own; symm = flipped; congr = λ a b c e. ap (λ k. same k c) (equal_of a b e) }
