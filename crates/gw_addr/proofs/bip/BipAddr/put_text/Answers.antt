use Rattle.std.proofs.Common.{◌∙◌, ◌++◌, ◌∷◌, [], ℕ, List, append_assoc, ap, sym, subst}
use Rattle.std.specs.Fmt.{decimal}
use Rattle.gw_addr.specs.Appending.{IsAppended}
use Rattle.gw_addr.specs.Text.{four_text}
use Rattle.gw_addr.proofs.Writing.{address_text}
use Rattle.gw_addr.proofs.bip.BipAddr.put_text.Goals as goal

pub returns : goal.returns
returns c =
    let port = decimal c.args.self.udp in
    subst (λ (t : List ℕ). IsAppended t c.args.out.now c.put_slice.new.out c.put_slice.result)
    (c.write_port-end.ensures.text
    ∙ ap (λ (t : List ℕ). t ++ port) c.write_four-place.ensures.text
    ∙ append_assoc (four_text c.args.self.ip) (58 ∷ []) port
    ∙ sym (address_text c.args.self))
    c.put_slice.ensures
