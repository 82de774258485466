-- The texts that are written piece by piece.
use Rattle.std.proofs.Common.{◌≡◌, ℕ, ◌-◌, List, [], ◌∷◌, ◌++◌, ◌≤◌, length, take, get_or, refl, sym, ap, ◌∙◌, append_assoc, arith}
use Rattle.std.proofs.lemmas.List.{length-append, length-take, take_at, take-take}
use Rattle.std.specs.Fmt.{decimal}
use Rattle.std.proofs.lemmas.Grind.{common_steps}
use Rattle.gw_addr.specs.declared.bip.BipAddr.{BipAddr}
use Rattle.gw_addr.specs.Address.{text_of}
use Rattle.gw_addr.specs.Reading.{Keeps}
use Rattle.gw_addr.specs.Text.{four_text}

-- what keeps more keeps its front
pub Keeps-front : (old more new : List ℕ) → Keeps (old ++ more) new → Keeps old new
Keeps-front old more new keeps =
    let len : length old ≤ length (old ++ more) = omega (arith, length-append old more) in
    sym (take-take (length old) (length (old ++ more)) new len) ∙ ap (take (length old)) keeps ∙ take_at old more (length old) refl

-- four numbers, each with what follows it
pub four_behind : (octets : List ℕ) (behind : ℕ) → (((decimal (get_or octets 0 0) ++ 46 ∷ []) ++ (decimal (get_or octets 1 0) ++ 46 ∷ []))
    ++ (decimal (get_or octets 2 0) ++ 46 ∷ [])) ++ (decimal (get_or octets 3 0) ++ behind ∷ []) ≡ four_text octets ++ behind ∷ []
unfolding four_text
four_behind octets behind =
    grind (arith, common_steps)

-- all but the last of what is in front
pub all_but_last : (xs ys : List ℕ) (n last : ℕ) → n ≤ length xs → take n xs ≡ ys ++ last ∷ [] → take (n - 1) xs ≡ ys
all_but_last xs ys n last fits is =
    let len : length ys ≡ n - 1 = omega (arith, length-take n xs, ap length is, length-append ys (last ∷ [])) in
    sym (take-take (n - 1) n xs (omega arith)) ∙ ap (take (n - 1)) is ∙ take_at ys (last ∷ []) (n - 1) len

-- an address's four octets, and its port
pub address_text : (a : BipAddr) → text_of a ≡ four_text a.ip ++ 58 ∷ decimal a.udp
unfolding four_text
address_text a =
    let w = decimal (get_or a.ip 0 0) in
    let x = decimal (get_or a.ip 1 0) in
    let y = decimal (get_or a.ip 2 0) in
    let z = decimal (get_or a.ip 3 0) in
    let port = 58 ∷ decimal a.udp in
    sym (append_assoc w (46 ∷ (x ++ 46 ∷ (y ++ 46 ∷ z))) port
    ∙ ap (λ (t : List ℕ). w ++ 46 ∷ t) (append_assoc x (46 ∷ (y ++ 46 ∷ z)) port
    ∙ ap (λ (t : List ℕ). x ++ 46 ∷ t) (append_assoc y (46 ∷ z) port)))
